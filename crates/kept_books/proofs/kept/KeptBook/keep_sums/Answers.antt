use Rattle.std.proofs.Common.{Option, IfSome, sym, subst}
use Rattle.index_cells.specs.Books.{KeepsBook}
use Rattle.index_cells.specs.declared.kept.Kept.{Kept}
use Rattle.kept_books.proofs.kept.KeptBook.keep_sums.Goals as goal

pub returns : goal.returns
returns c = λ written of. record {
  walks = of.walks;
  sums = c.kept_or_made.ensures (subst (λ (o : Option Kept). IfSome o (KeepsBook c.args.book.now)) (sym c.replace-sums.ensures.value) of.sums);
}
