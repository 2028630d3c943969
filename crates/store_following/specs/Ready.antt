-- Where a source is followed to its end: what it has, and the room of the replica.
use Rattle.std.specs.Prelude.{◌≡◌, ◌⊎◌, ℕ, ◌+◌, ◌≤◌, ◌==◌, if◌then◌else◌, List, [], length, Option, Ok}
use Rattle.text_store.specs.declared.image.Image.{Image}
use Rattle.text_store.specs.Edits.{whole_size}
use Rattle.text_store.specs.Files.{opened_limit}
use Rattle.text_store.specs.Image.{image}
use Rattle.text_store.specs.Kinds.{image_kind}
use Rattle.follower.specs.Heads.{most}
use Rattle.follower.specs.declared.fault.FrameFault.TheVariants as frame_fault
use Rattle.follower.specs.declared.frame.Frame.{Frame}
use Rattle.follow_commands.specs.Whole.{Each, HasAll, IsBehind}
use Rattle.store_text.specs.Shelved.{or_empty, second_name}
use Rattle.store_text.specs.declared.refusal.StoreRefusal.TheVariants as store_refusal
use Rattle.store_following.specs.declared.refusal.FollowRefusal.{FollowRefusal}
use Rattle.store_following.specs.declared.refusal.FollowRefusal.TheVariants as refusal

-- the length of a file that holds an image and a frame: a C is the image, and another record stands behind it
abbrev pub space_of : Image → Frame → ℕ
space_of shown next = if next.kind == image_kind then whole_size shown else whole_size shown + (10 + length next.payload)

-- a frame has room in a file of at most so many bytes, and its payload isn't longer than one may be
abbrev pub Fits : ℕ → Image → Frame → Type 0
Fits limit shown next = (space_of shown next ≤ limit) × (length next.payload ≤ most)

-- two files are empty, and so have the limit of a replica that is made; or they have an image of a history, or one from before it, and
-- their own limit
abbrev pub HaveLimit : {left : Option (List ℕ)} {last : Image} → HasAll left last → List ℕ → List ℕ → ℕ → ℕ → Type 0
HaveLimit all first second limit room =
    (((first ≡ []) × (second ≡ [])) × (room ≡ limit))
    ⊎ (((shown : Image) × (image first second ≡ Ok shown) × IsBehind all.start all.changes shown) × (room ≡ opened_limit first second))

-- A source has all frames of a history, in their order, and two files are a replica that may follow it: each frame has room.
pub record AreReady (left : Option (List ℕ)) (first second : List ℕ) (limit : ℕ) : Type 0 where
  pub last : Image
  pub all : HasAll left last
  pub room : ℕ
  pub has_limit : HaveLimit all first second limit room
  pub fits : Fits room all.start all.first
  pub each_fits : Each (Fits room) all.start all.changes all.others

-- the same of a replica among files, of which an absent one is empty
abbrev pub IsReady : Option (List ℕ) → (List ℕ → Option (List ℕ)) → List ℕ → ℕ → Type 0
IsReady left file name limit = AreReady left (or_empty (file name)) (or_empty (file (second_name name))) limit

-- a call failed, or memory ran out
abbrev pub IsFailed : FollowRefusal → Type 0
IsFailed (refusal.Store store_refusal.ReadFault) = Unit {0}
IsFailed (refusal.Store store_refusal.DiskFault) = Unit {0}
IsFailed (refusal.Store store_refusal.Memory) = Unit {0}
IsFailed (refusal.Unread frame_fault.ReadFault) = Unit {0}
IsFailed (refusal.Unread frame_fault.Memory) = Unit {0}
IsFailed _ = ⊥
