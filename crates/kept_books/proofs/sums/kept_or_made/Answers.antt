use Rattle.std.proofs.Common.{Option, IfSome, subst}
use Rattle.index_cells.specs.Books.{KeepsBook}
use Rattle.index_cells.specs.declared.kept.Kept.{Kept}
use Rattle.kept_books.proofs.sums.kept_or_made.Goals as goal

pub returns-in-Some : goal.returns-in-Some
returns-in-Some c = λ h. subst (λ (o : Option Kept). IfSome o (KeepsBook c.args.txns.now)) c.in-Some.is h

pub returns-in-None : goal.returns-in-None
returns-in-None c = λ h. c.made_sums.ensures
