-- A source of all frames of a history, in their order.
use Rattle.std.specs.Prelude.{◌≡◌, ◌⊎◌, ℕ, ◌+◌, ◌^◌, ◌<◌, ◌≤◌, List, [], ◌∷◌, length, Option, Some, OnOk, Result}
use Rattle.text_store.specs.declared.change.Change.{Change}
use Rattle.text_store.specs.declared.image.Image.{Image}
use Rattle.text_store.specs.Edits.{edited}
use Rattle.follower.specs.Histories.{IsAfter, IsRecord, IsSnapshot}
use Rattle.follower.specs.declared.frame.Frame.{Frame}
use Rattle.follow_commands.specs.Genuine.{bytes_of_all}
use Rattle.follow_commands.specs.declared.following.Stop.{Stop}

-- the C of an image, at its revision
pub record IsFirst (start : Image) (first : Frame) : Type 0 where
  pub snapshot : IsSnapshot start first
  pub revision : first.revision ≡ start.revision
  pub fits : length first.payload < 2 ^ 64

-- the record of a change, at the revision behind that of the image before it
pub record IsNextRecord (shown : Image) (change : Change) (next : Frame) : Type 0 where
  pub is : IsRecord change next
  pub revision : next.revision ≡ shown.revision + 1
  pub fits : length next.payload < 2 ^ 64

-- frames are the records of changes, one after the other, which lead from an image to another
abbrev pub AreRecords : Image → List Change → List Frame → Image → Type 0
AreRecords shown [] [] last = last ≡ shown
AreRecords shown [] (next ∷ frames) last = ⊥
AreRecords shown (change ∷ changes) [] last = ⊥
AreRecords shown (change ∷ changes) (next ∷ frames) last =
    IsNextRecord shown change next × ((after : Image) × (edited shown change ≡ Some after) × AreRecords after changes frames last)

-- a fact of each record and the image before it
abbrev pub Each : (Image → Frame → Type 0) → Image → List Change → List Frame → Type 0
Each P from [] frames = Unit {0}
Each P from (change ∷ changes) [] = Unit {0}
Each P from (change ∷ changes) (next ∷ frames) = P from next × ((after : Image) → edited from change ≡ Some after → Each P after changes frames)

-- A source has all frames of a history up to an image, each once and in their order: the C of its first image, and then the record of
-- each change.
pub record HasAll (left : Option (List ℕ)) (last : Image) : Type 0 where
  pub start : Image
  pub changes : List Change
  pub first : Frame
  pub others : List Frame
  pub told : left ≡ Some (bytes_of_all (first ∷ others))
  pub is_first : IsFirst start first
  pub are_records : AreRecords start changes others last
  pub within : last.revision ≤ 2 ^ 62

-- an image from before a history, or one of it
abbrev pub IsBehind : Image → List Change → Image → Type 0
IsBehind start changes shown = (shown.revision < start.revision) ⊎ ((n : ℕ) × IsAfter start n changes shown)

-- Where a source has all frames of a history, an image from before it, or one of it, is led to its last one, if nothing is refused.
abbrev pub CatchesUp : {T : Type 0} → Option (List ℕ) → Image → Image → Result T Stop → Type 0
CatchesUp left shown end result = (last : Image) (all : HasAll left last) → IsBehind all.start all.changes shown → OnOk result (end ≡ last)
