-- One step of a walk.
use Rattle.std.specs.Prelude.{◌≡◌, ◌∷◌, ◌++◌, [], ℕ, true, false, List, set, Some}
use Rattle.std.specs.List.{slice_get}
use Rattle.book.specs.declared.transaction.Txn.{Txn}
use Rattle.kept_turnover.specs.Keeping.{Replaces as Exchanges}
use Rattle.placed_sums.specs.Replaced.{rows_replacing}
use Rattle.reached_walk.specs.declared.place.Spot.{Spot}
use Rattle.reached_walk.specs.Spots.{holds}
use Rattle.shared_days.specs.Days.{AreOf as AreDaysOf}
use Rattle.shared_days.specs.declared.days.SharedDays.{SharedDays}
use Rattle.walked_edits.specs.Forms.{put_back, spots_of, vacant}
use Rattle.walked_edits.specs.Keeping.{IsTaken}
use Rattle.walked_edits.specs.declared.kept.Kept.{Kept}
use Rattle.walked_edits.specs.Solving.{is_at}
use Rattle.walked_edits.specs.declared.replaced.Replaced.{Replaced}
use Rattle.walked_edits.specs.declared.walking.Walking.{Walking}

-- One more form was taken out of a book, which can be put back.
pub record IsOneOut (spot : Spot) (book new : List Txn) (taken more : List Replaced) : Type 0 where
  pub old : Txn
  pub was : slice_get book spot.number ≡ Some old
  pub is : more ≡ taken ++ record { spot = spot; txn = old } ∷ []
  pub back : put_back new more ≡ put_back book taken

-- A form that stands at a place with all its postings was taken out of a book and of what is kept, and its place is held.
pub record Vacates (spot : Spot) (book new : List Txn) (before after : Walking) : Type 0 where
  pub old : Txn
  pub was : slice_get book spot.number ≡ Some old
  pub own : is_at spot old ≡ true
  pub book_is : new ≡ set book spot.number (vacant spot.day)
  pub taken : after.taken.items ≡ before.taken.items ++ record { spot = spot; txn = old } ∷ []
  pub kept : IsTaken old (vacant spot.day) before.kept after.kept

-- the form that a book has at a place, if it has one, doesn't stand there with all its postings
abbrev pub IsElsewhere : List Txn → Spot → Type 0
IsElsewhere book spot = (old : Txn) → slice_get book spot.number ≡ Some old → is_at spot old ≡ false

-- whatever forms are put back that have one under a number, the book is the same with them as before
abbrev pub StaysBack : ℕ → List Txn → List Txn → Type 0
StaysBack n old new = (forms : List Replaced) → holds (spots_of forms) n ≡ true → put_back new forms ≡ put_back old forms

-- ---- before the walk: the old forms of the edited transactions

-- days of a book become those of the book in which another form, which has no postings, holds the place of one
abbrev pub LeavesDays : ℕ → Txn → Txn → SharedDays → SharedDays → Type 0
LeavesDays number old held before after =
    (book : List Txn) → AreDaysOf book before → slice_get book number ≡ Some old → AreDaysOf (set book number held) after

-- a form was taken out of all that is kept, and another one holds its place
pub record HasLeft (number : ℕ) (old held : Txn) (before after : Kept) : Type 0 where
  pub index : after.index ≡ before.index ++ rows_replacing old held
  pub turnover : Exchanges old held before.turnover after.turnover
  pub days : LeavesDays number old held before.days after.days

-- A form was taken out of a book and of what is kept, and its place is held.
pub record Leaves (spot : Spot) (book new : List Txn) (before after : Kept) (olds more : List Replaced) : Type 0 where
  pub old : Txn
  pub was : slice_get book spot.number ≡ Some old
  pub book_is : new ≡ set book spot.number (vacant spot.day)
  pub olds_are : more ≡ olds ++ record { spot = spot; txn = old } ∷ []
  pub kept : HasLeft spot.number old (vacant spot.day) before after
