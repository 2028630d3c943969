-- What is kept of a book.
use Rattle.std.specs.Prelude.{List}
use Rattle.book.specs.declared.transaction.Txn.{Txn}
use Rattle.index_cells.specs.Keeps.{Keeps}
use Rattle.index_cells.specs.Names.{NamesOf}
use Rattle.index_cells.specs.Posted.{AreDated, posted_in}
use Rattle.index_cells.specs.declared.kept.Kept.{Kept}

-- The sums of its postings are kept, with the names of these alone, and their days are days of the calendar.
pub record KeepsBook (txns : List Txn) (kept : Kept) : Type 0 where
  pub keeps : Keeps (posted_in txns) kept
  pub dated : AreDated txns
  pub names : NamesOf (posted_in txns) kept
