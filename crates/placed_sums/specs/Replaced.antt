-- A transaction of a book that gets another form.
use Rattle.std.specs.Prelude.{◌≡◌, ℕ, List, [], ◌∷◌, ◌++◌, map, set, Some, slice_get, unwrap_or}
use Rattle.std.specs.List.{AllByRecursion}
use Rattle.book.specs.Bounds.{TurnoverFits}
use Rattle.book.specs.Postings.{postings_of}
use Rattle.book.specs.declared.transaction.Txn.{Txn}
use Rattle.live_index.specs.Net.{negated_row}
use Rattle.live_index.specs.declared.row.Row.{Row}
use Rattle.placed_sums.specs.Rows.{Stand, rows_of_txn}

-- the rows that are put in: those of the old form negated, and those of the new one
abbrev pub rows_replacing : Txn → Txn → List Row
rows_replacing old new = map negated_row (rows_of_txn old) ++ rows_of_txn new

-- Some rows stand for a book in which a transaction with a number gets another form, with which
-- the book's amounts stay in range.
pub record Replaces (rows : List Row) (old new : Txn) : Type 0 where
  pub book : List Txn
  pub number : ℕ
  pub kept : Stand rows book
  pub is : slice_get book number ≡ Some old
  pub fits : TurnoverFits (postings_of (set book number new))

-- all postings of a transaction are on a day
abbrev pub IsWithin : ℕ → Txn → Type 0
IsWithin day t = AllByRecursion (λ p. (unwrap_or p.day t.day).0 ≡ day) t.postings
