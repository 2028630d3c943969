-- A walk over what an edit reaches, each transaction solved anew at its place.
use Rattle.std.specs.Prelude.{◌≡◌, ◌<◌, ℕ, Bool, true, false, List, [], ◌∷◌, ◌++◌, length, Some}
use Rattle.std.specs.List.{slice_get, AllByRecursion}
use Rattle.book.specs.declared.transaction.Txn.{Txn}
use Rattle.balancing.specs.Solves.{HaveFew, Solves}
use Rattle.reached_entries.specs.Reached.{IsSolved}
use Rattle.placed_checks.specs.Placed.{SameBefore}
use Rattle.placed_sums.specs.Accounts.{HasSymbols, is_among, is_moved}
use Rattle.placed_sums.specs.Replaced.{IsWithin}
use Rattle.reached_walk.specs.declared.place.Spot.{Spot}
use Rattle.reached_walk.specs.declared.walking.Reach.{Reach}
use Rattle.reached_walk.specs.Closed.{AreReached}
use Rattle.reached_walk.specs.Spots.{holds}
use Rattle.reached_walk.specs.Walks.{IsBegun, Walks}
use Rattle.shared_days.specs.Days.{AreOf as AreDaysOf}
use Rattle.walked_edits.specs.Causes.{CanWalk}
use Rattle.walked_edits.specs.Forms.{IsInside, put_back, put_forms, spots_of, vacant, with_room, with_vacants}
use Rattle.walked_edits.specs.Keeping.{AreSums, IsKept}
use Rattle.walked_edits.specs.Scenes.{Scene, IsEdited, edit_in}
use Rattle.walked_edits.specs.Solving.{place_at}
use Rattle.walked_edits.specs.declared.kept.Kept.{Kept}
use Rattle.walked_edits.specs.declared.replaced.Replaced.{Replaced}
use Rattle.walked_edits.specs.declared.walking.Walked.{Walked}
use Rattle.walked_edits.specs.declared.walking.Walking.{Walking}

-- A transaction is solved by what a book has before its place: in each book that has it there, and has the same before it.
abbrev pub IsSolvedBy : List Txn → Spot → Txn → Txn → Type 0
IsSolvedBy book spot written solved =
    (after : List Txn) → HaveFew after → slice_get after spot.number ≡ Some solved
    → SameBefore book after (place_at spot) → IsSolved after spot.number written solved

-- A form that was found for a written transaction: by the book before its place, on one day, in symbols that are known but
-- for amounts of zero.
pub record IsFound (symbols : List (List ℕ)) (book : List Txn) (spot : Spot) (written solved : Txn) : Type 0 where
  pub by_book : IsSolvedBy book spot written solved
  pub within : IsWithin spot.day.0 solved
  pub named : (symbol : List ℕ) → is_moved symbol solved.postings ≡ true → is_among symbol symbols ≡ true

-- a transaction that was answered has its form, solved by what the book has before it
pub record IsRight (texts book : List Txn) (spot : Spot) : Type 0 where
  pub written : Txn
  pub is : slice_get texts spot.number ≡ Some written
  pub solved : Txn
  pub there : slice_get book spot.number ≡ Some solved
  pub by_book : IsSolvedBy book spot written solved

-- ---- on the way

-- a form was taken out, all of whose postings were on the day of its place, and the place is held
pub record IsOut (book : List Txn) (r : Replaced) : Type 0 where
  pub held : slice_get book r.spot.number ≡ Some (vacant r.spot.day)
  pub within : IsWithin r.spot.day.0 r.txn

-- two books have the same under a number
abbrev pub AreAlikeAt : List Txn → List Txn → Spot → Type 0
AreAlikeAt one two spot = slice_get one spot.number ≡ slice_get two spot.number

-- the places of those are held that weren't solved anew yet
abbrev pub AreHeld : List Spot → List Spot → List Txn → Type 0
AreHeld done spots book =
    AllByRecursion (λ t. holds done t.number ≡ false → slice_get book t.number ≡ Some (vacant t.day)) spots

-- Some reached transactions are solved anew in a book, and some are out of it: what is kept is that of the others, but that
-- the days have the forms that are out. All others but the edited ones are as they were. In a book of the new text that the
-- walk can tell the solved ones are as here.
pub record IsPartly (s : Scene) (book : List Txn) (kept : Kept) (done out : List Replaced) : Type 0 where
  pub before : List Txn
  pub edited : IsEdited s before
  pub sums : AreSums book kept
  pub days : AreDaysOf (put_back book out) kept.days
  pub symbols : HasSymbols s.symbols book
  pub size : length book ≡ length s.written
  pub others : (n : ℕ) → holds (spots_of done) n ≡ false → holds (spots_of out) n ≡ false → holds s.spots n ≡ false
      → slice_get book n ≡ slice_get before n
  pub own : AreHeld (spots_of done) s.spots book
  pub held : AllByRecursion (IsOut book) out
  pub right : AllByRecursion (IsRight s.written book) (spots_of done)
  pub exact : (set : ℕ → Bool) (after : List Txn) → CanWalk s set after → AllByRecursion (AreAlikeAt book after) (spots_of done)

-- First all reached transactions are taken out: those that were answered are.
pub record IsTaking (s : Scene) (answered : List Spot) (book : List Txn) (w : Walking) (reach : Reach) : Type 0 where
  pub partly : IsPartly s book w.kept [] w.taken.items
  pub walks : Walks (edit_in s) answered (spots_of w.taken.items) reach

-- between two steps
abbrev pub Takes : Scene → List Txn → Walking → Reach → Type 0
Takes s book w reach = IsTaking s (spots_of w.taken.items) book w reach

-- in a step one more was answered
abbrev pub HasCome : Scene → Spot → List Txn → Walking → Reach → Type 0
HasCome s spot book w reach = IsTaking s (spots_of w.taken.items ++ spot ∷ []) book w reach

-- Then each gets its form in the order of their places.
pub record IsPutting (s : Scene) (book : List Txn) (kept : Kept) (done out : List Replaced) : Type 0 where
  pub partly : IsPartly s book kept done out
  pub reached : AreReached (edit_in s) (spots_of (done ++ out))

-- the first of those that are out is next
pub record IsNext (s : Scene) (book : List Txn) (kept : Kept) (next : Replaced) : Type 0 where
  pub done : List Replaced
  pub rest : List Replaced
  pub putting : IsPutting s book kept done (next ∷ rest)

-- it has its form, whatever came before and comes after it
abbrev pub PutsNext : Scene → Replaced → List Txn → Kept → List Txn → Kept → Type 0
PutsNext s next book before new after =
    (done rest : List Replaced) → IsPutting s book before done (next ∷ rest) → IsPutting s new after (done ++ next ∷ []) rest

-- ---- where it begins

-- before any transaction was answered
abbrev pub Begins : Scene → Reach → Type 0
Begins s reach = (before : List Txn) → IsEdited s before → Walks (edit_in s) [] [] reach

-- the walk was told some old forms
abbrev pub TellsOld : Scene → List Spot → Reach → Type 0
TellsOld s told reach = (before : List Txn) → IsEdited s before → IsBegun (edit_in s) s.spots told reach

-- it is told that of one more, if it had one
abbrev pub TellsOne : Scene → Spot → Reach → Reach → Type 0
TellsOne s spot old new = (told : List Spot) → TellsOld s told old → TellsOld s (told ++ spot ∷ []) new

-- what is known of a book with room for the edited transactions
pub record IsReady (s : Scene) (room : List Txn) (kept : Kept) (reach : Reach) : Type 0 where
  pub before : List Txn
  pub edited : IsEdited s before
  pub room_is : room ≡ with_room s.written before
  pub kept_is : IsKept room kept
  pub symbols : HasSymbols s.symbols room
  pub begins : Walks (edit_in s) [] [] reach

-- The old forms of some edited transactions are out of a book and of what is kept.
pub record AreLeft (s : Scene) (room book : List Txn) (kept : Kept) (left : List Spot) : Type 0 where
  pub book_is : book ≡ with_vacants left room
  pub sums : AreSums book kept
  pub days : AreDaysOf book kept.days
  pub symbols : HasSymbols s.symbols book

-- that was so of none
pub record CanLeave (s : Scene) (room : List Txn) (kept : Kept) : Type 0 where
  pub left : AreLeft s room room kept []
  pub inside : AllByRecursion (λ t. t.number < length room) s.spots

-- ---- what a walk answers

-- The forms of all transactions that the edit reaches, in the order of their places. With them the book solves the text
-- after the edit, and what is kept is that of this book.
pub record IsTold (s : Scene) (book : List Txn) (spots : List Spot) (kept : Kept) : Type 0 where
  pub solves : Solves s.written book
  pub reached : AreReached (edit_in s) spots
  pub kept_is : IsKept book kept
  pub symbols : HasSymbols s.symbols book
  pub inside : AllByRecursion (λ t. t.number < length s.written) spots

abbrev pub IsWalked : Scene → List Txn → Walked → Type 0
IsWalked s before w = IsTold s (put_forms (with_room s.written before) w.forms.items) (spots_of w.forms.items) w.kept

-- the same in a book with room for the edited transactions
pub record IsWalkedIn (s : Scene) (room : List Txn) (w : Walked) : Type 0 where
  pub told : IsTold s (put_forms room w.forms.items) (spots_of w.forms.items) w.kept
  pub inside : AllByRecursion (IsInside room) w.forms.items
