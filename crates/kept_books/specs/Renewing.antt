-- Transactions that others are put in the place of, or behind.
use Rattle.std.specs.Prelude.{◌≡◌, ◌≤◌, ◌<◌, ◌+◌, ℕ, zero, suc, true, false, List, [], ◌∷◌, ◌++◌, drop, get_or, length, Option, None, Some, slice_get}
use Rattle.book.specs.Standing.{Numbered, without_number}
use Rattle.book.specs.declared.transaction.Txn.{Txn}
use Rattle.watchers.specs.Watches.{AreOf, Stands, numbered_from}
use Rattle.watchers.specs.declared.watch.Watch.{Watch}
use Rattle.placed_sums.specs.Accounts.{is_among}
use Rattle.reached_walk.specs.declared.place.Spot.{Spot}
use Rattle.reached_walk.specs.Spots.{is_before}
use Rattle.kept_books.specs.Rewriting.{Behind, At, Rewrite}
use Rattle.kept_books.specs.Writing.{symbols_at}

-- the first number that is edited, and the transactions that stand from there on
abbrev pub first_of : List Txn → Rewrite → ℕ
first_of written (Behind more) = length written
first_of written (At number txn) = number

abbrev pub forms_of : Rewrite → List Txn
forms_of (Behind more) = more
forms_of (At number txn) = txn ∷ []

-- others stand in the place of those from a number on, or behind them all
abbrev pub renewed : ℕ → List Txn → List Txn → List Txn
renewed zero written forms = forms ++ drop (length forms) written
renewed (suc first) [] forms = forms
renewed (suc first) (txn ∷ written) forms = txn ∷ renewed first written forms

-- where some stand that are counted from a number
abbrev pub spots_from : ℕ → List Txn → List Spot
spots_from n [] = []
spots_from n (txn ∷ txns) = record { day = txn.day; number = n } ∷ spots_from (suc n) txns

-- of two that follow one another the second doesn't stand before the first
abbrev pub IsSorted : List Spot → Type 0
IsSorted spots = (k : ℕ) (d : Spot) → k + 1 < length spots → is_before (get_or spots (k + 1) d) (get_or spots k d) ≡ false

-- each symbol that some write is one that others write
abbrev pub AreWithin : List Txn → List Txn → Type 0
AreWithin one two = (symbol : List ℕ) → is_among symbol (symbols_at one) ≡ true → is_among symbol (symbols_at two) ≡ true

-- ---- watches

-- the watches of the transaction under a number, if one stands there, were taken out
abbrev pub LeavesWatches : ℕ → Option Txn → List Watch → List Watch → Type 0
LeavesWatches number None before after = after ≡ before
LeavesWatches number (Some old) before after =
    (standing : Numbered Txn) → AreOf standing before → Stands number old standing → AreOf (without_number number standing) after

-- one stands in the place of another, or behind all
abbrev pub put_at : List Txn → ℕ → Txn → List Txn
put_at [] n txn = txn ∷ []
put_at (u ∷ us) zero txn = txn ∷ us
put_at (u ∷ us) (suc n) txn = u ∷ put_at us n txn

abbrev pub PutsWatches : ℕ → Option Txn → Txn → List Watch → List Watch → Type 0
PutsWatches number old txn before after =
    (texts : List Txn) → slice_get texts number ≡ old → number ≤ length texts → AreOf (numbered_from 0 texts) before
    → AreOf (numbered_from 0 (put_at texts number txn)) after

-- two lists have the same from a number on
abbrev pub SameFrom : ℕ → List Txn → List Txn → Type 0
SameFrom first one two = (n : ℕ) → first ≤ n → slice_get one n ≡ slice_get two n

-- the watches of any transactions that have such ones from a number on became those with others from there on
abbrev pub RenewsWatches : ℕ → List Txn → List Txn → List Watch → List Watch → Type 0
RenewsWatches first former forms before after =
    (texts : List Txn) → first ≤ length texts → SameFrom first texts former → AreOf (numbered_from 0 texts) before
    → AreOf (numbered_from 0 (renewed first texts forms)) after
