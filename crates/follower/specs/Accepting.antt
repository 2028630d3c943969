-- What a frame makes of an image, and what becomes of it.
use Rattle.std.specs.Prelude.{◌≡◌, ◌⊎◌, ℕ, ◌+◌, ◌-◌, ◌^◌, ◌<◌, ◌≤◌, min, ◌==◌, if◌then◌else◌, length, Option, None, Some, Result, Ok, Err}
use Rattle.hl_base.specs.declared.disk.Disk.{Ghosts}
use Rattle.hl_base.specs.Causes.{Rose}
use Rattle.text_store.specs.declared.image.Image.{Image}
use Rattle.text_store.specs.declared.fault.StoreFault.{StoreFault}
use Rattle.text_store.specs.declared.fault.StoreFault.TheVariants as store_fault
use Rattle.text_store.specs.Edits.{whole_size}
use Rattle.text_store.specs.Refusals.{CreateRefused, OpenRefused, ReadTheSame}
use Rattle.text_store.specs.Stores.{disks, fault_count, limit_of, size_of, Tell, Throughout, Keeps, NoWider, bounds}
use Rattle.follower.specs.declared.fault.Accepted.{Accepted}
use Rattle.follower.specs.declared.fault.Accepted.TheVariants as accepted
use Rattle.follower.specs.declared.fault.FollowFault.{FollowFault}
use Rattle.follower.specs.declared.fault.FollowFault.TheVariants as fault
use Rattle.follower.specs.declared.follower.Follower.{Follower}
use Rattle.follower.specs.declared.frame.Frame.{Frame}
use Rattle.follower.specs.Images.{snapshot, image_after}
use Rattle.follower.specs.Keeping.{room_size}
use Rattle.follower.specs.Standings.{IsNext}
use Rattle.follower.specs.Stands.{ShowsOne, Stands}
use Rattle.text_store.specs.Kinds.{image_kind}

-- the revisions that are told of a frame
abbrev pub AreTold : ℕ → Frame → ℕ → ℕ → Type 0
AreTold revision frame had got = (had ≡ revision) × (got ≡ frame.revision)

-- The length of the half that a frame is stored in: a C takes one of its own, and another record stands behind the others, or behind
-- the image before it where the store is written anew.
abbrev pub needed : {D : Type 0} {g : Ghosts D} → Follower D g → Frame → Image → ℕ
needed old frame next =
    if frame.kind == image_kind
    then whole_size next
    else room_size (size_of old.store) (limit_of old.store) (10 + length frame.payload) (whole_size old.image) + (10 + length frame.payload)

-- why a good frame wasn't stored: it is judged before the disks whether it fits
abbrev pub IsUnstored : {D : Type 0} {g : Ghosts D} → Follower D g → Follower D g → ℕ → StoreFault → Type 0
IsUnstored {D} {g} old new size (store_fault.Full told limit) = (limit_of old.store < size) × (told ≡ min size (2 ^ 64 - 1)) × (limit ≡ limit_of old.store) × (new ≡ old)
IsUnstored {D} {g} old new size store_fault.DiskFault = (size ≤ limit_of old.store) × Rose (fault_count g (disks old.store)) (fault_count g (disks new.store)) × (new.image ≡ old.image)
IsUnstored old new size (store_fault.NotAStore at) = ⊥
IsUnstored old new size (store_fault.Newer version) = ⊥
IsUnstored old new size (store_fault.Exists len) = ⊥
IsUnstored old new size store_fault.Memory = ⊥

-- What becomes of a frame, each case exactly where it says.
abbrev pub BecomesOf : {D : Type 0} {g : Ghosts D} → Follower D g → Frame → Result Accepted FollowFault → Follower D g → Type 0
BecomesOf old frame (Ok (accepted.Old had got)) new = AreTold old.image.revision frame had got × (got ≤ had) × (new ≡ old)
BecomesOf old frame (Ok (accepted.Gap had got)) new = AreTold old.image.revision frame had got × (had + 1 < got) × (frame.kind ≡ image_kind → ⊥) × (new ≡ old)
BecomesOf old frame (Ok (accepted.Taken revision)) new = IsNext old.image.revision frame × (revision ≡ frame.revision) × (image_after old.image frame ≡ Some new.image)
BecomesOf old frame (Err (fault.BadPayload revision)) new = IsNext old.image.revision frame × (revision ≡ frame.revision) × (image_after old.image frame ≡ None) × (new ≡ old)
BecomesOf old frame (Err (fault.Store cause)) new = IsNext old.image.revision frame × ((next : Image) × (image_after old.image frame ≡ Some next) × IsUnstored old new (needed old frame next) cause)
BecomesOf old frame (Err (fault.NotASnapshot kind)) new = ⊥
BecomesOf old frame (Err fault.Memory) new = IsNext old.image.revision frame × (new.image ≡ old.image)

-- a frame that was taken had its room, and the half that it stands in is as long as it needed
abbrev pub HadRoom : {D : Type 0} {g : Ghosts D} → Follower D g → Frame → Result Accepted FollowFault → Follower D g → Type 0
HadRoom old frame (Ok (accepted.Taken revision)) new = (needed old frame new.image ≤ limit_of old.store) × (size_of new.store ≡ needed old frame new.image)
HadRoom old frame (Ok (accepted.Old had got)) new = Unit {0}
HadRoom old frame (Ok (accepted.Gap had got)) new = Unit {0}
HadRoom old frame (Err cause) new = Unit {0}

-- what the disks may show beside the image after a frame: nothing once it is taken; this frame after a disk fault; and else at most what
-- they might have shown before
abbrev pub IsPending : Option Image → Option Image → Result Accepted FollowFault → Option Image → Type 0
IsPending before next (Ok (accepted.Taken revision)) after = after ≡ None
IsPending before next (Ok (accepted.Old had got)) after = after ≡ before
IsPending before next (Ok (accepted.Gap had got)) after = after ≡ before
IsPending before next (Err (fault.Store store_fault.DiskFault)) after = (after ≡ None) ⊎ ((after ≡ before) ⊎ (after ≡ next))
IsPending before next (Err (fault.Store (store_fault.NotAStore at))) after = after ≡ before
IsPending before next (Err (fault.Store (store_fault.Newer version))) after = after ≡ before
IsPending before next (Err (fault.Store (store_fault.Full size limit))) after = after ≡ before
IsPending before next (Err (fault.Store (store_fault.Exists len))) after = after ≡ before
IsPending before next (Err (fault.Store store_fault.Memory)) after = after ≡ before
IsPending before next (Err (fault.NotASnapshot kind)) after = after ≡ before
IsPending before next (Err (fault.BadPayload revision)) after = after ≡ before
IsPending before next (Err fault.Memory) after = (after ≡ None) ⊎ (after ≡ before)

-- A follower accepts a frame: what becomes of it, what the disks show then, and what a crash at any moment leaves: the image before it,
-- the image with it, or the one before with a frame that was refused for a disk fault since the last one that was taken.
pub record Accepts {D : Type 0} {g : Ghosts D} (old : Follower D g) (frame : Frame) (result : Result Accepted FollowFault) (new : Follower D g) : Type 0 where
  pub becomes : BecomesOf old frame result new
  pub room : HadRoom old frame result new
  pub stands : (pending : Option Image) → Stands old.store old.image pending
      → (after : Option Image) × IsPending pending (image_after old.image frame) result after × Stands new.store new.image after
  pub crash : (pending : Option Image) → Stands old.store old.image pending → Tell g (disks old.store)
      → Throughout g (disks old.store) (disks new.store) (ShowsOne old.image pending (image_after old.image frame))
  pub limit : limit_of new.store ≡ limit_of old.store
  pub keeps : Keeps g (disks old.store) (disks new.store) (bounds old.store)
  pub no_wider : NoWider old.store new.store

-- a follower has no room for a record of so many bytes, also where its store is written anew first; or it has
abbrev pub HasNoRoom : {D : Type 0} {g : Ghosts D} → Follower D g → ℕ → Option StoreFault → Type 0
HasNoRoom follower r None = room_size (size_of follower.store) (limit_of follower.store) r (whole_size follower.image) + r ≤ limit_of follower.store
HasNoRoom follower r (Some cause) =
    let size = room_size (size_of follower.store) (limit_of follower.store) r (whole_size follower.image) + r in
    (limit_of follower.store < size) × (cause ≡ store_fault.Full (min size (2 ^ 64 - 1)) (limit_of follower.store))

-- why a store of so many bytes isn't made, or memory ran out
abbrev pub IsUnmade : {D : Type 0} → Ghosts D → D × D → D × D → ℕ → ℕ → FollowFault → Type 0
IsUnmade g old new size limit (fault.Store cause) = CreateRefused g old new size limit cause × (cause ≡ store_fault.Memory → ⊥)
IsUnmade g old new size limit fault.Memory = new ≡ old
IsUnmade g old new size limit (fault.NotASnapshot kind) = ⊥
IsUnmade g old new size limit (fault.BadPayload revision) = ⊥

-- why a follower isn't made of a frame
abbrev pub MakingRefused : {D : Type 0} → Ghosts D → D × D → D × D → Frame → ℕ → FollowFault → Type 0
MakingRefused g old new frame limit (fault.NotASnapshot kind) = (kind ≡ frame.kind) × (frame.kind ≡ image_kind → ⊥) × (new ≡ old)
MakingRefused g old new frame limit (fault.BadPayload revision) = (frame.kind ≡ image_kind) × (revision ≡ frame.revision) × (snapshot frame ≡ None) × (new ≡ old)
MakingRefused g old new frame limit (fault.Store cause) =
    (frame.kind ≡ image_kind) × ((shown : Image) × (snapshot frame ≡ Some shown) × CreateRefused g old new (whole_size shown) limit cause) × (cause ≡ store_fault.Memory → ⊥)
MakingRefused g old new frame limit fault.Memory = (frame.kind ≡ image_kind) × (new ≡ old)

-- why two files aren't opened as a follower
abbrev pub OpeningRefused : {D : Type 0} → Ghosts D → D × D → D × D → FollowFault → Type 0
OpeningRefused g old new (fault.Store cause) = OpenRefused g old new cause × (cause ≡ store_fault.Memory → ⊥)
OpeningRefused g old new fault.Memory = ReadTheSame g old new
OpeningRefused g old new (fault.NotASnapshot kind) = ⊥
OpeningRefused g old new (fault.BadPayload revision) = ⊥

-- the disks of what was made or opened, or those that are given back
abbrev pub disks_of : {D : Type 0} {g : Ghosts D} → Result (Follower D g) (D × D × FollowFault) → D × D
disks_of (Ok follower) = disks follower.store
disks_of (Err refusal) = (refusal.0, refusal.1)
