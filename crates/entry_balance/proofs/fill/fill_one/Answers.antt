use Rattle.std.proofs.Common.{◌∷◌, [], ◌++◌, Option, sym, ap, ◌∙◌}
use Rattle.book.specs.declared.amount.Amount.{Amount}
use Rattle.book.specs.declared.transaction.Posting.{Posting}
use Rattle.entry_balance.specs.Fill.{filled_posting}
use Rattle.entry_balance.proofs.fill.fill_one.Goals as goal

pub returns-in_ok-push-in-Some : goal.returns-in_ok-push-in-Some
returns-in_ok-push-in-Some c =
    c.in_ok-push-in-Some.ensures.items ∙ ap (λ (p : Posting). c.args.filled.now.items ++ p ∷ []) c.in_ok-costed-in-Some.ensures
    ∙ ap (λ (o : Option Amount). c.args.filled.now.items ++ filled_posting c.args.plan.now.real.items c.args.plan.now.balanced.items c.args.plan.now.recorded c.args.posting o) (sym c.in-Some.is)
