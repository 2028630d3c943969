use Rattle.std.proofs.Common.{subst, ◌≤◌}
use Rattle.hl_num.specs.Decimal.{Decimal}
use Rattle.book.proofs.Added.{plus_from}
use Rattle.entry_balance.proofs.tally.checked_sum.Goals as goal

pub returns-in-Ok-clause-value : goal.returns-in-Ok-clause-value
returns-in-Ok-clause-value c =
    let a = subst (λ (d : Decimal). d.places ≤ 36) c.a.view_is c.a.invariant.places_bound in
    let b = subst (λ (d : Decimal). d.places ≤ 36) c.b.view_is c.b.invariant.places_bound in
    plus_from c.args.a c.args.b c.in-Ok.sum a b c.in-Ok.ensures.value c.in-Ok.ensures.places
