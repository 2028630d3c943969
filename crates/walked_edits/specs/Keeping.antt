-- What is kept of a book.
use Rattle.std.specs.Prelude.{◌≡◌, ◌++◌, ℕ, true, List, set, Some}
use Rattle.std.specs.List.{slice_get}
use Rattle.book.specs.Postings.{postings_of}
use Rattle.book.specs.declared.transaction.Txn.{Txn}
use Rattle.entry_balance.specs.Entry.{costs_fit, moved}
use Rattle.entry_balance.specs.Tally.{turnover_fits}
use Rattle.entry_balance.specs.Values.{Value}
use Rattle.kept_turnover.specs.Keeping.{IsTurnover, are_told}
use Rattle.kept_turnover.specs.Keeping.{Replaces as Exchanges}
use Rattle.kept_turnover.specs.declared.turnover.Turnover.{Turnover}
use Rattle.placed_sums.specs.Accounts.{HasSymbols}
use Rattle.placed_sums.specs.Numbers.{earlier_on}
use Rattle.placed_sums.specs.Replaced.{IsWithin, rows_replacing}
use Rattle.placed_sums.specs.Rows.{Stand}
use Rattle.reached_walk.specs.declared.place.Spot.{Spot}
use Rattle.shared_days.specs.Days.{AreOf as AreDaysOf}
use Rattle.shared_days.specs.declared.days.SharedDays.{SharedDays}
use Rattle.walked_edits.specs.declared.kept.Kept.{Kept}
use Rattle.walked_edits.specs.declared.replaced.Replaced.{Replaced}

-- The index stands for a book's rows, the days are those of its postings, and the turnover is what it moves.
pub record IsKept (book : List Txn) (kept : Kept) : Type 0 where
  pub stand : Stand kept.index book
  pub days : AreDaysOf book kept.days
  pub turnover : IsTurnover kept.turnover (moved (postings_of book))

-- ---- while a walk goes on

-- The index stands for a book's rows, and the turnover is what it moves: its costs can be told, and all stays in range.
pub record AreSums (book : List Txn) (kept : Kept) : Type 0 where
  pub stand : Stand kept.index book
  pub turnover : IsTurnover kept.turnover (moved (postings_of book))
  pub told : are_told book ≡ true
  pub fits : turnover_fits (moved (postings_of book)) ≡ true

-- all of what is kept is that of a book
abbrev pub IsWhole : List Txn → Kept → Type 0
IsWhole book kept = (AreSums book kept) × (AreDaysOf book kept.days)

-- What tells the sums before a place: those of a book, days of a whole book that has the same transactions on the day of the
-- place before it, and symbols among which are all of the book's.
pub record TellSums (symbols : List (List ℕ)) (book : List Txn) (kept : Kept) (spot : Spot) : Type 0 where
  pub sums : AreSums book kept
  pub whole : List Txn
  pub days : AreDaysOf whole kept.days
  pub earlier : earlier_on spot.day.0 spot.number whole ≡ earlier_on spot.day.0 spot.number book
  pub named : HasSymbols symbols book

-- ---- one form in the place of another

-- a transaction stands under a number in a book that an index and a turnover are kept of
pub record IsHeld (kept : Kept) (number : ℕ) (held : Txn) : Type 0 where
  pub book : List Txn
  pub stand : Stand kept.index book
  pub turnover : IsTurnover kept.turnover (moved (postings_of book))
  pub is : slice_get book number ≡ Some held

-- days of a book become those of the book with another form, where both forms are on one day
abbrev pub PutsDays : ℕ → Txn → Txn → SharedDays → SharedDays → Type 0
PutsDays number old new before after =
    (book : List Txn) (day : ℕ) → AreDaysOf book before → slice_get book number ≡ Some old → IsWithin day old → IsWithin day new
    → AreDaysOf (set book number new) after

-- whatever the turnover is of stays in range
abbrev pub Fits : Turnover → Type 0
Fits t = (values : List Value) → IsTurnover t values → turnover_fits values ≡ true

-- a form was taken out of the index and the turnover, and another one holds its place
pub record IsTaken (old held : Txn) (before after : Kept) : Type 0 where
  pub index : after.index ≡ before.index ++ rows_replacing old held
  pub turnover : Exchanges old held before.turnover after.turnover
  pub days : after.days ≡ before.days

-- A form was put in the place that another one held: its costs can be told, and all stays in range. The days had the form
-- that was taken out.
pub record IsPut (held : Txn) (out : Replaced) (form : Txn) (before after : Kept) : Type 0 where
  pub index : after.index ≡ before.index ++ rows_replacing held form
  pub turnover : Exchanges held form before.turnover after.turnover
  pub costs : costs_fit form.postings ≡ true
  pub fits : Fits after.turnover
  pub days : PutsDays out.spot.number out.txn form before.days after.days
