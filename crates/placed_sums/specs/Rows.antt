-- The rows that the postings of a book are in an index of sums.
use Rattle.std.specs.Prelude.{◌≡◌, ℕ, Bool, List, [], ◌∷◌, unwrap_or}
use Rattle.std.specs.List.{flat_map}
use Rattle.book.specs.declared.amount.Amount.{Amount}
use Rattle.book.specs.declared.transaction.Posting.{Posting}
use Rattle.book.specs.declared.transaction.Txn.{Txn}
use Rattle.entry_balance.specs.Entry.{from_amount}
use Rattle.live_index.specs.Rows.{sum_before}
use Rattle.live_index.specs.Net.{SameNet}
use Rattle.live_index.specs.declared.row.Row.{Row}

-- the amount of a posting, on the posting's own day or else on that of its transaction
abbrev pub row_of : Txn → Posting → Amount → Row
row_of t p a =
    record { account = p.account; symbol = a.symbol; day = unwrap_or p.day t.day; value = a.value }

-- a posting is one row, and none without an amount
abbrev pub rows_of_posting : Txn → Posting → List Row
rows_of_posting t p = from_amount (λ a. row_of t p a ∷ []) p.amount

abbrev pub rows_of_txn : Txn → List Row
rows_of_txn t = flat_map (rows_of_posting t) t.postings

-- the rows of a book
abbrev pub rows_of : List Txn → List Row
rows_of book = flat_map rows_of_txn book

-- Rows tell a book: before each day they have the sums that the book's own rows have, of every
-- account and symbol.
abbrev pub Tell : List Row → List Txn → Type 0
Tell rows book =
    (account symbol : List ℕ) (below : Bool) (end : ℕ)
    → sum_before rows account symbol below end ≡ sum_before (rows_of book) account symbol below end

-- Rows stand for a book: they tell it, and each row was put in as often as the book has it, its
-- opposites taken off.
pub record Stand (rows : List Row) (book : List Txn) : Type 0 where
  pub told : Tell rows book
  pub net : SameNet (rows_of book) rows
