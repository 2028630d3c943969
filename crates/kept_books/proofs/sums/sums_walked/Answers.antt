use Rattle.std.proofs.Common.{Option, IfSome, subst}
use Rattle.index_cells.specs.Books.{KeepsBook}
use Rattle.index_cells.specs.declared.kept.Kept.{Kept}
use Rattle.kept_books.proofs.sums.sums_walked.Goals as goal

pub sums_with_forms-requires-clause-sums : goal.sums_with_forms-requires-clause-sums
sums_with_forms-requires-clause-sums c = subst (λ (o : Option Kept). IfSome o (KeepsBook c.args.book.now)) c.in-Some.is c.requires.sums
