-- A source of frames of one history.
use Rattle.std.specs.Prelude.{◌≡◌, ℕ, ◌+◌, ◌^◌, ◌<◌, ◌≤◌, List, [], ◌∷◌, ◌++◌, length, Option, Some}
use Rattle.text_store.specs.Frames.{frame}
use Rattle.text_store.specs.declared.change.Change.{Change}
use Rattle.text_store.specs.declared.image.Image.{Image}
use Rattle.follower.specs.Heads.{BeginsWith}
use Rattle.follower.specs.Histories.{IsAfter, IsGenuine}
use Rattle.follower.specs.declared.frame.Frame.{Frame}

-- frames, one behind the other
abbrev pub bytes_of_all : List Frame → List ℕ
bytes_of_all [] = []
bytes_of_all (next ∷ frames) = frame next.revision next.kind next.payload ++ bytes_of_all frames

-- each is one of a history, and its payload's length fits eight bytes
abbrev pub AreOfOne : Image → List Change → List Frame → Type 0
AreOfOne start changes [] = Unit {0}
AreOfOne start changes (next ∷ frames) = (IsGenuine start changes next × (length next.payload < 2 ^ 64)) × AreOfOne start changes frames

-- A source has frames of one history, any of them and in any order, and nothing behind them begins with a frame: it ends between two
-- frames or inside one, or goes on with other bytes.
pub record HasFrames (left : Option (List ℕ)) (start : Image) (changes : List Change) : Type 0 where
  pub frames : List Frame
  pub rest : List ℕ
  pub told : left ≡ Some (bytes_of_all frames ++ rest)
  pub ends : (next : Frame) (more : List ℕ) → BeginsWith rest (Some next) more → ⊥
  pub are : AreOfOne start changes frames

-- Where a source has any frames of one history, an image of it is led on to one that isn't earlier: that after the first so many
-- changes, as many as its revision says.
abbrev pub LeadsOn : Option (List ℕ) → Image → Image → Type 0
LeadsOn left shown end =
    (start : Image) (changes : List Change) (n : ℕ) → HasFrames left start changes → IsAfter start n changes shown
    → (m : ℕ) × (n ≤ m) × (end.revision ≡ start.revision + m) × (shown.revision ≤ end.revision) × IsAfter start m changes end
