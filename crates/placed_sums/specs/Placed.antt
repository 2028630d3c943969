-- What is known of a book before one of its transactions.
use Rattle.std.specs.Prelude.{◌≡◌, ℕ, ℤ, ◌^◌, ◌<◌, Bool, List}
use Rattle.hl_time.specs.declared.day.Day.{Day}
use Rattle.book.specs.declared.transaction.Txn.{Txn}
use Rattle.book.specs.Bounds.{TurnoverFits}
use Rattle.book.specs.Postings.{postings_of}
use Rattle.book.specs.SumsBefore.{Place, sum_before}
use Rattle.live_index.specs.declared.row.Row.{Row}
use Rattle.placed_sums.specs.Accounts.{HasSymbols}
use Rattle.placed_sums.specs.Numbers.{earlier_on}
use Rattle.placed_sums.specs.Rows.{Tell}

-- the place of the transaction with a number on a day, before its first posting
abbrev pub place_of : Day → ℕ → Place
place_of day number = record { day = day.0; txn = number; posting = 0 }

-- a book, the rows that tell it, the symbols that are asked for, a day, a number, and the numbers of
-- the transactions before that one that have a posting on the day
pub record Known : Type 0 where
  pub book : List Txn
  pub rows : List Row
  pub earlier : List ℕ
  pub symbols : List (List ℕ)
  pub day : Day
  pub number : ℕ

abbrev pub known : List Txn → List Row → List ℕ → List (List ℕ) → Day → ℕ → Known
known book rows earlier symbols day number =
    record { book = book; rows = rows; earlier = earlier; symbols = symbols; day = day; number = number }

-- What is true of it: the rows tell the book, whose amounts are in range; those that come before on
-- the day are all that do; no symbol of the book is left out; and the day is one that sums reach.
pub record IsKnown (k : Known) : Type 0 where
  pub told : Tell k.rows k.book
  pub fits : TurnoverFits (postings_of k.book)
  pub earlier : k.earlier ≡ earlier_on k.day.0 k.number k.book
  pub symbols : HasSymbols k.symbols k.book
  pub near : k.day.0 < 2 ^ 22

-- the sum of an account in a symbol before the transaction
abbrev pub sum_placed : Known → List ℕ → Bool → List ℕ → ℤ
sum_placed k account below symbol = sum_before k.book account symbol below (place_of k.day k.number)
