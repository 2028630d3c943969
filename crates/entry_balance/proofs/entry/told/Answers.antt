use Rattle.std.proofs.Common.{Err, sym, ap, ◌∙◌}
use Rattle.book.specs.declared.fault.Cause.{Cause}
use Rattle.entry_balance.proofs.Causes.{told_none, told_some}
use Rattle.entry_balance.proofs.entry.told.Goals as goal

pub returns-in-None : goal.returns-in-None
returns-in-None c = λ written unassigned s. told_none written _ _ unassigned s c.in-None.is

pub returns-in-Some : goal.returns-in-Some
returns-in-Some c = λ written unassigned s. told_some written _ _ _ s c.in-Some.is ∙ ap (λ (fault : Cause). Err fault) (sym c.into_inner.ensures)
