use Rattle.std.proofs.Common.{not, sym, ap, ◌∙◌}
use Rattle.std.specs.List.{list_all}
use Rattle.book.specs.Postings.{txns_of}
use Rattle.entry_balance.specs.Settled.{lacks_sums}
use Rattle.additions.specs.declared.settling.Judged.{Judged}
use Rattle.additions.proofs.Judging.{all_costs, all_summed, apart_gives, not_quiet, not_summed, sums_same}
use Rattle.additions.proofs.book_end.added_to_book.Goals as goal

pub returns-then-not-quiet-clause-value : goal.returns-then-not-quiet-clause-value
returns-then-not-quiet-clause-value c = λ moves turned.
    not_quiet c.args.book.now.asked c.args.book.now.assigned moves (txns_of c.args.items.now) (sym c.are_quiet-quiet.ensures ∙ c.if-not-quiet.true)

pub returns-then-not-summed-clause-value : goal.returns-then-not-summed-clause-value
returns-then-not-summed-clause-value c = λ moves turned.
    not_summed c.args.book.now.asked c.args.book.now.assigned moves (txns_of c.args.items.now)
    (sym (sums_same (txns_of c.args.items.now) c.in_ok-all.all.items c.in_ok-all.ensures)
    ∙ ap (list_all (λ (j : Judged). not (lacks_sums j.cause))) (sym c.deref.ensures.value) ∙ sym c.have_sums-summed.ensures ∙ c.if-not-summed.true)

pub judged_behind-requires : goal.judged_behind-requires
judged_behind-requires c =
    all_costs c.args.book.now.asked (txns_of c.args.items.now) c.in_ok-all.all.items (sym c.are_quiet-quiet.ensures ∙ c.if-not-quiet.false)
    (ap (list_all (λ (j : Judged). not (lacks_sums j.cause))) (sym c.deref.ensures.value) ∙ sym c.have_sums-summed.ensures ∙ c.if-not-summed.false)
    c.in_ok-all.ensures

pub returns-clause-value : goal.returns-clause-value
returns-clause-value c = λ moves turned.
    let ts = txns_of c.args.items.now in
    let quiet = sym c.are_quiet-quiet.ensures ∙ c.if-not-quiet.false in
    let sums = ap (list_all (λ (j : Judged). not (lacks_sums j.cause))) (sym c.deref.ensures.value) ∙ sym c.have_sums-summed.ensures ∙ c.if-not-summed.false in
    let summed = all_summed c.args.book.now.asked ts c.in_ok-all.all.items quiet sums c.in_ok-all.ensures in
    apart_gives c.args.book.now.asked c.args.book.now.assigned moves ts c.in_ok-all.all.items c.judged_behind.result quiet sums c.in_ok-all.ensures (c.judged_behind.ensures.value moves ts turned summed)
