-- The check of one transaction at its place in a book.
use Rattle.std.specs.Prelude.{◌≡◌, ◌≤◌, ℕ, Bool, true, List, Some}
use Rattle.std.specs.List.{slice_get}
use Rattle.hl_num.specs.Decimal.{units_of}
use Rattle.hl_time.specs.declared.day.Day.{Day}
use Rattle.book.specs.declared.transaction.Txn.{Txn}
use Rattle.book.specs.SumsBefore.{Place, other_before, postings_before, sum_before}
use Rattle.balancing.specs.Solves.{HaveFew}
use Rattle.entry_check.specs.Checked.{Others, Told}
use Rattle.placed_checks.specs.Unmixed.{is_unmixed}

-- the place of a transaction with a number on a day, before its first posting
abbrev pub place_of : ℕ → Day → Place
place_of n day = record { day = day.0; txn = n; posting = 0 }

-- two books have the same postings of each account before a place
abbrev pub SameBefore : List Txn → List Txn → Place → Type 0
SameBefore one two place =
    (account : List ℕ) (below : Bool) → postings_before one account below place ≡ postings_before two account below place

-- What is told of accounts is what they hold in a book before a place: each sum, with at most 36 decimals, and the least
-- other symbol.
pub record AreRight (told : Told) (others : Others) (book : List Txn) (place : Place) : Type 0 where
  pub sums : (below : Bool) (account symbol : List ℕ) → units_of (told below account symbol) ≡ sum_before book account symbol below place
  pub few : (below : Bool) (account symbol : List ℕ) → (told below account symbol).places ≤ 36
  pub beside : (below : Bool) (account symbol : List ℕ) → others below account symbol ≡ other_before book account symbol below place

-- A solved transaction on a day is the one with a number in a book, and isn't mixed; what accounts hold there before its
-- place is told. No amount of the book has more than 36 decimals.
pub record IsPlaced (told : Told) (others : Others) (book : List Txn) (n : ℕ) (day : Day) (solved : Txn) : Type 0 where
  pub there : slice_get book n ≡ Some solved
  pub few : HaveFew book
  pub unmixed : is_unmixed solved ≡ true
  pub right : AreRight told others book (place_of n day)
