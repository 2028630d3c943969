-- The life of a store's records: what becomes of them, what they feed, and what a replica has of that.
use Rattle.std.specs.Prelude.{◌≡◌, ℕ, ◌+◌, ◌^◌, ◌≤◌, List, [], ◌∷◌, ◌++◌, length, Some, Result}
use Rattle.text_store.specs.declared.change.Change.{Change}
use Rattle.text_store.specs.declared.image.Image.{Image}
use Rattle.text_store.specs.Edits.{edited}
use Rattle.text_store.specs.Entries.{Entry}
use Rattle.text_store.specs.Frames.{base_of}
use Rattle.follower.specs.declared.fault.Accepted.{Accepted}
use Rattle.follower.specs.declared.fault.FollowFault.{FollowFault}
use Rattle.follower.specs.declared.frame.Frame.{Frame}
use Rattle.follower.specs.Heads.{BeginsWith}
use Rattle.follower.specs.Histories.{IsAfter}
use Rattle.follow_commands.specs.Genuine.{bytes_of_all}
use Rattle.follow_commands.specs.Whole.{AreRecords, IsFirst}

-- ---- the records of a store

-- the records of the half in use: the image of its `C`, the changes of the records behind it, and the image of all
pub record Records : Type 0 where
  pub start : Image
  pub changes : List Change
  pub shown : Image

-- changes lead from an image to another, one after the other
abbrev pub LeadOver : Image → List Change → Image → Type 0
LeadOver start [] end = end ≡ start
LeadOver start (change ∷ changes) end = (next : Image) × (edited start change ≡ Some next) × LeadOver next changes end

-- the image of all is that which the changes make of the first
abbrev pub AreMade : Records → Type 0
AreMade records = LeadOver records.start records.changes records.shown

-- What becomes of the records: the record of an edit is put behind them, which was acknowledged, or which a crash or a disk fault left
-- there, and so counts as accepted; a checkpoint writes the image anew, as one `C`; or a crash, a repair or an opening leaves them.
pub data Event : Type 0 where
  accepted : Change → Event
  written_anew : Event
  left : Event

abbrev pub with_change : Records → Change → Image → Records
with_change records change next = record { start = records.start; changes = records.changes ++ change ∷ []; shown = next }

abbrev pub anew : Image → Records
anew shown = record { start = shown; changes = []; shown = shown }

abbrev pub Becomes : Records → Event → Records → Type 0
Becomes old (accepted change) new = (next : Image) × (edited old.shown change ≡ Some next) × (new ≡ with_change old change next)
Becomes old written_anew new = new ≡ anew old.shown
Becomes old left new = new ≡ old

-- records after some events
abbrev pub Lives : Records → List Event → Records → Type 0
Lives old [] new = new ≡ old
Lives old (event ∷ events) new = (mid : Records) × Becomes old event mid × Lives mid events new

-- ---- the accepted edits

-- the edits among events
abbrev pub accepted_in : List Event → List Change
accepted_in [] = []
accepted_in (accepted change ∷ events) = change ∷ accepted_in events
accepted_in (written_anew ∷ events) = accepted_in events
accepted_in (left ∷ events) = accepted_in events

-- all edits behind the first image: those of the records at the opening, and those that were accepted since
abbrev pub changes_in : Records → List Event → List Change
changes_in opening events = opening.changes ++ accepted_in events

-- an image is that after so many of the accepted edits
abbrev pub IsOfPrefix : Records → List Event → ℕ → Image → Type 0
IsOfPrefix opening events n shown = IsAfter opening.start n (changes_in opening events) shown

-- an image that was that after so many edits becomes that after no fewer, and its revision doesn't fall
abbrev pub GoesOn : Records → List Event → ℕ → Image → Image → Type 0
GoesOn opening events n shown end =
    (m : ℕ) × (n ≤ m) × (end.revision ≡ opening.start.revision + m) × (shown.revision ≤ end.revision) × IsOfPrefix opening events m end

-- ---- what is fed

-- the frames of records: that of the `C`, and then that of each change
pub record AreFramesOf (records : Records) (frames : List Frame) : Type 0 where
  pub first : Frame
  pub others : List Frame
  pub whole : frames ≡ first ∷ others
  pub is_first : IsFirst records.start first
  pub are_records : AreRecords records.start records.changes others records.shown

-- a feed at a moment of a life: after some of its events
pub record IsFeed (opening : Records) (events : List Event) (frames : List Frame) : Type 0 where
  pub before : List Event
  pub after : List Event
  pub whole : events ≡ before ++ after
  pub records : Records
  pub lives : Lives opening before records
  pub small : records.shown.revision ≤ 2 ^ 62
  pub are : AreFramesOf records frames

-- a frame of some feed of a life
pub record IsFed (opening : Records) (events : List Event) (frame : Frame) : Type 0 where
  pub feed : List Frame
  pub is_feed : IsFeed opening events feed
  pub earlier : List Frame
  pub later : List Frame
  pub among : feed ≡ earlier ++ frame ∷ later

abbrev pub AreFed : Records → List Event → List Frame → Type 0
AreFed opening events [] = Unit {0}
AreFed opening events (frame ∷ frames) = IsFed opening events frame × AreFed opening events frames

-- frames and the answers to them, each frame of some feed
abbrev pub AreStepsFed : Records → List Event → List (Frame × Result Accepted FollowFault) → Type 0
AreStepsFed opening events [] = Unit {0}
AreStepsFed opening events (step ∷ steps) = IsFed opening events step.0 × AreStepsFed opening events steps

-- bytes are frames of any feeds, and nothing behind them begins with a frame
pub record HasFedFrames (opening : Records) (events : List Event) (bytes : List ℕ) : Type 0 where
  pub frames : List Frame
  pub rest : List ℕ
  pub whole : bytes ≡ bytes_of_all frames ++ rest
  pub ends : (next : Frame) (more : List ℕ) → BeginsWith rest (Some next) more → ⊥
  pub fed : AreFed opening events frames

-- the revision of a record that is put behind those of a half
abbrev pub revision_behind : List ℕ → List Entry → ℕ
revision_behind front entries = base_of front + length entries
