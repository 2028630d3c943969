-- Sums that are kept of transactions, with their names.
use Rattle.std.specs.Prelude.{List}
use Rattle.book.specs.declared.transaction.Txn.{Txn}
use Rattle.index_cells.specs.Keeps.{Keeps}
use Rattle.index_cells.specs.Names.{NamesOf}
use Rattle.index_cells.specs.Posted.{posted_in}
use Rattle.index_cells.specs.declared.kept.Kept.{Kept}

-- the sums of their postings are kept, with the names of these alone
pub record KeepsNamed (txns : List Txn) (kept : Kept) : Type 0 where
  pub keeps : Keeps (posted_in txns) kept
  pub names : NamesOf (posted_in txns) kept
