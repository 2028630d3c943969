-- An edit of some transactions of a text that has a book.
use Rattle.std.specs.Prelude.{◌≡◌, ◌<◌, ◌≤◌, ℕ, List, length, Some}
use Rattle.std.specs.List.{slice_get, AllByRecursion}
use Rattle.book.specs.declared.transaction.Txn.{Txn}
use Rattle.balancing.specs.Solves.{Solves}
use Rattle.reached_entries.specs.Reached.{AreSame}
use Rattle.reached_walk.specs.declared.place.Spot.{Spot}
use Rattle.reached_walk.specs.Asks.{AreWatched}
use Rattle.reached_walk.specs.Closed.{Edit, edits_of}
use Rattle.reached_walk.specs.Spots.{AreOnce, Rise, holds}
use Rattle.watchers.specs.declared.watch.Watch.{Watch}

-- Where the edited transactions stand now, in the order of their places, the text's transactions as they were written and
-- as they are written now, the watches of these, and symbols.
pub record Scene : Type 0 where
  pub spots : List Spot
  pub former : List Txn
  pub written : List Txn
  pub watches : List Watch
  pub symbols : List (List ℕ)

abbrev pub scene : List Spot → List Txn → List Txn → List Watch → List (List ℕ) → Scene
scene spots former written watches symbols =
    record { spots = spots; former = former; written = written; watches = watches; symbols = symbols }

abbrev pub edit_in : Scene → Edit
edit_in s = edits_of (holds s.spots) s.former s.written

-- an edited transaction stands at its place in the new text
pub record StandsIn (s : Scene) (spot : Spot) : Type 0 where
  pub inside : spot.number < length s.written
  pub day : (txn : Txn) → slice_get s.written spot.number ≡ Some txn → txn.day ≡ spot.day

-- A book solves the text before the edit, and the watches are those of the text after it; the two differ in the edited
-- transactions alone, of which there is one at least. What the new text has behind the old one is edited.
pub record IsEdited (s : Scene) (before : List Txn) : Type 0 where
  pub solves : Solves s.former before
  pub others : AreSame (holds s.spots) 0 s.former s.written
  pub some : 0 < length s.spots
  pub rise : Rise s.spots
  pub once : AreOnce s.spots
  pub each : AllByRecursion (StandsIn s) s.spots
  pub size : length before ≤ length s.written
  pub watched : AreWatched s.written s.watches
