use Rattle.std.proofs.Common.{◌+◌, ◌<◌, ◌≤◌, ℕ, length, sym, ap, subst, arith}
use Rattle.std.proofs.lemmas.Result.{err_from_is_err_and}
use Rattle.walked_edits.specs.Counting.{nodes_at}
use Rattle.walked_edits.proofs.Going.{held_is, held_costs}
use Rattle.walked_edits.proofs.Putting.{is_held, moved_not, next_inside, puts_next, stays_back, tells, text_inside, unsolved_not, without}
use Rattle.walked_edits.proofs.walking.put_next.Goals as goal

pub form_at-requires : goal.form_at-requires
form_at-requires g c = text_inside c.args.edit.now c.args.book.now.items c.args.kept.now c.args.next.now c.requires.done c.requires.rest c.requires.putting

pub solved_now-requires : goal.solved_now-requires
solved_now-requires g c = tells c.args.edit.now c.args.book.now.items c.args.kept.now c.args.next.now c.requires.done c.requires.rest c.requires.putting

pub index-requires : goal.index-requires
index-requires g c =
    let inside : c.args.next.now.spot.number < length c.args.book.now.items = next_inside c.args.edit.now c.args.book.now.items c.args.kept.now c.args.next.now c.requires.done c.requires.rest c.requires.putting in
    omega (arith, inside)

pub put_kept-requires-clause-held : goal.put_kept-requires-clause-held
put_kept-requires-clause-held g c =
    is_held c.args.edit.now c.args.book.now.items c.args.kept.now c.args.next.now c.index.result.now c.requires (held_is c.args.edit.now c.args.book.now.items c.args.kept.now c.args.next.now c.index.result.now c.requires c.index.ensures)

pub put_kept-requires-clause-costs : goal.put_kept-requires-clause-costs
put_kept-requires-clause-costs g c =
    held_costs c.args.next.now c.index.result.now (held_is c.args.edit.now c.args.book.now.items c.args.kept.now c.args.next.now c.index.result.now c.requires c.index.ensures)

pub swap_at-requires : goal.swap_at-requires
swap_at-requires g c = next_inside c.args.edit.now c.args.book.now.items c.args.kept.now c.args.next.now c.requires.done c.requires.rest c.requires.putting

pub returns-clause-put : goal.returns-clause-put
returns-clause-put g c =
    puts_next c.args.edit.now c.args.book.now.items c.swap_at.new.book.items c.args.kept.now c.put_kept.new.kept c.args.next.now c.in_ok-written.written c.index.result.now c.in_ok-form.form
    c.in_ok-written.ensures.written c.in_ok-form.ensures.found (held_is c.args.edit.now c.args.book.now.items c.args.kept.now c.args.next.now c.index.result.now c.requires c.index.ensures)
    c.in_ok-put_kept.ensures.put c.swap_at.ensures.book c.in_ok-form.ensures.answers

pub returns-clause-back : goal.returns-clause-back
returns-clause-back g c = stays_back c.args.book.now.items c.swap_at.new.book.items c.args.next.now.spot.number c.in_ok-form.form c.swap_at.ensures.book

pub returns-clause-few : goal.returns-clause-few
returns-clause-few g c =
    subst (λ (n : ℕ). c.solved_now.new.steps.nodes ≤ c.args.steps.now.nodes + n) (ap (nodes_at c.args.edit.now.symbols) (sym c.in_ok-written.ensures.written)) c.in_ok-form.ensures.few

pub returns-in_err-written-clause-load : goal.returns-in_err-written-clause-load
returns-in_err-written-clause-load g c =
    let p = err_from_is_err_and c.from_residual.result c.from_residual.ensures.1 in
    rw (p.1, p.2) (without c.in_err-written.field-0.0 c.args.edit.now c.in_err-written.ensures.load)

pub returns-in_err-form-clause-load : goal.returns-in_err-form-clause-load
returns-in_err-form-clause-load g c =
    let p = err_from_is_err_and c.from_residual-in_err-form.result c.from_residual-in_err-form.ensures.1 in
    rw (p.1, p.2)
    (unsolved_not c.args.edit.now c.args.book.now.items c.args.kept.now c.args.next.now c.in_ok-written.written c.in_err-form.field-0.0 c.requires c.in_ok-written.ensures.written c.in_err-form.ensures.answers)

pub returns-in_err-put_kept-clause-load : goal.returns-in_err-put_kept-clause-load
returns-in_err-put_kept-clause-load g c =
    let p = err_from_is_err_and c.from_residual-in_err-put_kept.result c.from_residual-in_err-put_kept.ensures.1 in
    rw (p.1, p.2)
    (moved_not c.args.edit.now c.args.book.now.items c.args.kept.now c.args.next.now c.in_ok-written.written c.index.result.now c.in_ok-form.form c.in_err-put_kept.field-0.0 c.requires c.in_ok-written.ensures.written
    (held_is c.args.edit.now c.args.book.now.items c.args.kept.now c.args.next.now c.index.result.now c.requires c.index.ensures) c.in_ok-form.ensures.answers c.in_err-put_kept.ensures.load)

pub returns-clause-most : goal.returns-clause-most
returns-clause-most g c = c.solved_now.ensures.most

pub returns-in_err-written-clause-most : goal.returns-in_err-written-clause-most
returns-in_err-written-clause-most g c = omega arith

pub returns-in_err-form-clause-most : goal.returns-in_err-form-clause-most
returns-in_err-form-clause-most g c = c.solved_now.ensures.most

pub returns-in_err-put_kept-clause-most : goal.returns-in_err-put_kept-clause-most
returns-in_err-put_kept-clause-most g c = c.solved_now.ensures.most
