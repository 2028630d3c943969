-- What crashes leave of a follower that has accepted frames.
use Rattle.std.specs.Prelude.{◌≡◌, ◌⊎◌, List, [], ◌∷◌, Option, Some, None, Result, Ok, Err}
use Rattle.hl_base.specs.declared.disk.Disk.{Ghosts}
use Rattle.text_store.specs.declared.fault.StoreFault.TheVariants as store_fault
use Rattle.text_store.specs.declared.image.Image.{Image}
use Rattle.text_store.specs.Stores.{Tell, Throughout, disks}
use Rattle.follower.specs.declared.fault.Accepted.{Accepted}
use Rattle.follower.specs.declared.fault.Accepted.TheVariants as accepted
use Rattle.follower.specs.declared.fault.FollowFault.{FollowFault}
use Rattle.follower.specs.declared.fault.FollowFault.TheVariants as fault
use Rattle.follower.specs.declared.follower.Follower.{Follower}
use Rattle.follower.specs.declared.frame.Frame.{Frame}
use Rattle.follower.specs.Accepting.{Accepts}
use Rattle.follower.specs.Images.{image_after}
use Rattle.follower.specs.Stands.{ShowsOne, Stands}

-- a follower accepts frames, each with its answer; the last one stands first
abbrev pub Runs : {D : Type 0} {g : Ghosts D} → Follower D g → List (Frame × Result Accepted FollowFault) → Follower D g → Type 0
Runs old [] new = new ≡ old
Runs {D} {g} old (step ∷ earlier) new = (mid : Follower D g) × Runs old earlier mid × Accepts mid step.0 step.1 new

-- a frame was refused for a disk fault, and makes another image of this one
abbrev pub IsRefused : Image → Frame → Result Accepted FollowFault → Image → Type 0
IsRefused shown frame (Err (fault.Store store_fault.DiskFault)) other = image_after shown frame ≡ Some other
IsRefused shown frame result other = ⊥

abbrev pub IsUntaken : Result Accepted FollowFault → Type 0
IsUntaken (Ok (accepted.Taken revision)) = ⊥
IsUntaken result = Unit {0}

-- one of these frames, of which the last stands first, was refused for a disk fault, and none was taken since
abbrev pub RefusedSince : Image → List (Frame × Result Accepted FollowFault) → Image → Type 0
RefusedSince shown [] other = ⊥
RefusedSince shown (step ∷ earlier) other = IsRefused shown step.0 step.1 other ⊎ (IsUntaken step.1 × RefusedSince shown earlier other)

-- what the disks may show beside an image: that with one such frame, or nothing
abbrev pub MayPend : Image → List (Frame × Result Accepted FollowFault) → Option Image → Type 0
MayPend shown steps None = Unit {0}
MayPend shown steps (Some other) = RefusedSince shown steps other

-- A follower that was just made or opened accepts frames, and then another one. A crash at any moment of that leaves the image before
-- it, the image with it, or the image before it with one frame that was refused for a disk fault since the last one that was taken.
abbrev pub CrashesShowOne : {D : Type 0} → Ghosts D → Type 0
CrashesShowOne {D} g =
    (old now new : Follower D g) (steps : List (Frame × Result Accepted FollowFault)) (frame : Frame) (result : Result Accepted FollowFault)
    → Stands old.store old.image None → Tell g (disks old.store) → Runs old steps now → Accepts now frame result new
    → (pending : Option Image) × MayPend now.image steps pending × Throughout g (disks now.store) (disks new.store) (ShowsOne now.image pending (image_after now.image frame))
