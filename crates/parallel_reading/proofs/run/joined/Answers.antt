use Rattle.std.proofs.Common.{◌≡◌, List, [], Ok, rules, ap, sym, ◌∙◌}
use Rattle.std.proofs.lemmas.List.{nil_from_length}
use Rattle.std.proofs.lemmas.Result.{err_from_is_err_and}
use Rattle.book.specs.declared.item.Placed.{Placed}
use Rattle.parallel_reading.specs.Runs.{both}
use Rattle.parallel_reading.proofs.Runs.{Told, back_stops, both_nothing, both_read, front_stops, gives_so, run_read, run_stops}
use Rattle.parallel_reading.proofs.run.joined.Goals as goal

pub returns-in_err-items : goal.returns-in_err-items
returns-in_err-items c first second h k =
    let p = err_from_is_err_and c.from_residual.result c.from_residual.ensures.1 in
    rw (p.1, p.2) (front_stops c.in_err-items.field-0.0 first second (run_stops c.args.front c.in_err-items.field-0.0 first c.in_err-items.was h))

pub returns-in_err-more : goal.returns-in_err-more
returns-in_err-more c first second h k =
    let p = err_from_is_err_and c.from_residual-in_err-more.result c.from_residual-in_err-more.ensures.1 in
    rw (p.1, p.2)
    (back_stops c.in_err-more.field-0.0 c.in_ok-items.items.items first second (run_read c.args.front c.in_ok-items.items first c.in_ok-items.was h)
    (run_stops c.args.back c.in_err-more.field-0.0 second c.in_err-more.was k))

pub returns : goal.returns
returns c first second h k =
    both_read c.in_ok-items.items.items c.in_ok-more.more.items c.append.new.self.items first second (run_read c.args.front c.in_ok-items.items first c.in_ok-items.was h)
    (run_read c.args.back c.in_ok-more.more second c.in_ok-more.was k) c.in_ok-append.ensures.items

pub returns-then-is_empty : goal.returns-then-is_empty
returns-then-is_empty c first second h k =
    let none : c.in_ok-items.items.items ≡ [] = nil_from_length c.in_ok-items.items.items (search rules) in
    let is : first ≡ Ok [] = run_read c.args.front c.in_ok-items.items first c.in_ok-items.was h ∙ ap (λ (l : List Placed). Ok l) none in
    gives_so c.args.back (both first second) second (ap (λ (r : Told). both r second) is ∙ sym (both_nothing second)) k
