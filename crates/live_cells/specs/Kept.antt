-- What is kept of a book whose sums are asked for.
use Rattle.std.specs.Prelude.{ℕ, ◌^◌, ◌<◌, List}
use Rattle.book.specs.Bounds.{TurnoverFits}
use Rattle.book.specs.Postings.{postings_of}
use Rattle.book.specs.declared.transaction.Txn.{Txn}
use Rattle.live_index.specs.declared.row.Row.{Row}
use Rattle.placed_sums.specs.Rows.{Tell}

-- its amounts are in range, and the rows of an index tell it
pub record AreKept (rows : List Row) (book : List Txn) : Type 0 where
  pub fits : TurnoverFits (postings_of book)
  pub told : Tell rows book

-- rows tell a book up to a day
pub record Reaches (rows : List Row) (book : List Txn) (end : ℕ) : Type 0 where
  pub told : Tell rows book
  pub near : end < 2 ^ 22
