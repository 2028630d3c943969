-- The frames of one history of changes, and what a follower makes of any of them.
use Rattle.std.specs.Prelude.{◌≡◌, ◌⊎◌, ℕ, zero, suc, ◌^◌, ◌≤◌, List, [], ◌∷◌, Result, Ok, Err, Some}
use Rattle.text_store.specs.declared.change.Change.{Change}
use Rattle.text_store.specs.declared.image.Image.{Image}
use Rattle.text_store.specs.Changes.{kind_of, payload_of, AreStates, HasShortName, IsChange}
use Rattle.text_store.specs.Edits.{edited}
use Rattle.text_store.specs.Files.{whole_payload, IsWritable}
use Rattle.follower.specs.declared.fault.Accepted.{Accepted}
use Rattle.follower.specs.declared.fault.Accepted.TheVariants.{Taken, Old, Gap}
use Rattle.follower.specs.declared.fault.FollowFault.{FollowFault}
use Rattle.follower.specs.declared.frame.Frame.{Frame}
use Rattle.follower.specs.Standings.{IsNext}
use Rattle.follower.specs.Images.{image_after}
use Rattle.text_store.specs.Kinds.{image_kind}

-- the image after so many changes of a history, each of which could be made
abbrev pub IsAfter : Image → ℕ → List Change → Image → Type 0
IsAfter start zero changes shown = shown ≡ start
IsAfter start (suc n) [] shown = ⊥
IsAfter start (suc n) (change ∷ changes) shown = (next : Image) × (edited start change ≡ Some next) × IsAfter next n changes shown

-- the C of an image
pub record IsSnapshot (shown : Image) (frame : Frame) : Type 0 where
  pub kind : frame.kind ≡ image_kind
  pub payload : frame.payload ≡ whole_payload shown
  pub writable : IsWritable shown
  pub states : AreStates shown.latest

-- the record of a change
pub record IsRecord (change : Change) (frame : Frame) : Type 0 where
  pub kind : frame.kind ≡ kind_of change
  pub payload : frame.payload ≡ payload_of change
  pub name : HasShortName change
  pub numbers : IsChange change

-- A frame of a history: the C of an image of it, or the record of the change that led there. Its revision is that image's.
pub record IsGenuine (start : Image) (changes : List Change) (frame : Frame) : Type 0 where
  pub count : ℕ
  pub shown : Image
  pub after : IsAfter start count changes shown
  pub revision : frame.revision ≡ shown.revision
  pub within : shown.revision ≤ 2 ^ 62
  pub is : IsSnapshot shown frame ⊎ ((n : ℕ) × (before : Image) × (change : Change) × (count ≡ suc n) × IsAfter start n changes before × (edited before change ≡ Some shown) × IsRecord change frame)

-- what a follower makes of its image with a frame, as its answer says
abbrev pub Becomes : Image → Frame → Result Accepted FollowFault → Image → Type 0
Becomes shown frame (Ok (Taken revision)) after = IsNext shown.revision frame × (image_after shown frame ≡ Some after)
Becomes shown frame (Ok (Old had got)) after = after ≡ shown
Becomes shown frame (Ok (Gap had got)) after = after ≡ shown
Becomes shown frame (Err fault) after = after ≡ shown

-- frames and the answers to them, each of a history
abbrev pub AreGenuine : Image → List Change → List (Frame × Result Accepted FollowFault) → Type 0
AreGenuine start changes [] = Unit {0}
AreGenuine start changes (step ∷ steps) = IsGenuine start changes step.0 × AreGenuine start changes steps

-- what a follower makes of its image with frames, one after the other
abbrev pub LeadTo : Image → List (Frame × Result Accepted FollowFault) → Image → Type 0
LeadTo shown [] end = end ≡ shown
LeadTo shown (step ∷ steps) end = (mid : Image) × Becomes shown step.0 step.1 mid × LeadTo mid steps end
