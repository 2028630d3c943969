-- How a follower is led by a source.
use Rattle.std.specs.Prelude.{◌≡◌, ◌⊎◌, ℕ, ◌^◌, ◌<◌, ◌≤◌, true, length, List, [], ◌∷◌, ◌++◌, Option, Some, None, IfSome, IfErr, Result, Ok, Err}
use Rattle.hl_base.specs.Causes.{Rose}
use Rattle.hl_base.specs.declared.disk.Disk.{Ghosts as Disks}
use Rattle.hl_base.specs.declared.outside.Source.{Ghosts as Sources}
use Rattle.text_store.specs.Frames.{frame}
use Rattle.follower.specs.Accepting.{Accepts}
use Rattle.follower.specs.Crashes.{Runs}
use Rattle.follower.specs.Fills.{NextRefused}
use Rattle.follower.specs.Heads.{BeginsWith, FrameRefused, is_kind, most}
use Rattle.follower.specs.declared.fault.Accepted.{Accepted}
use Rattle.follower.specs.declared.fault.FollowFault.{FollowFault}
use Rattle.follower.specs.declared.fault.FollowFault.TheVariants as follow_fault
use Rattle.follower.specs.declared.fault.FrameFault.TheVariants as frame_fault
use Rattle.follower.specs.declared.follower.Follower.{Follower}
use Rattle.follower.specs.declared.frame.Frame.{Frame}
use Rattle.follow_commands.specs.Tallies.{tally_after}
use Rattle.follow_commands.specs.declared.following.Stop.{Stop}
use Rattle.follow_commands.specs.declared.following.Stop.TheVariants.{Unread, Refused}
use Rattle.follow_commands.specs.declared.tally.Tally.{Tally}

-- the bytes of frames, of which the last stands first
abbrev pub bytes_of : List (Frame × Result Accepted FollowFault) → List ℕ
bytes_of [] = []
bytes_of (step ∷ earlier) = bytes_of earlier ++ frame step.0.revision step.0.kind step.0.payload

-- a frame is the front of what was left, where that is told
abbrev pub Reads : Option (List ℕ) → Frame → Option (List ℕ) → Type 0
Reads left next left_then = (next.revision < 2 ^ 64) × IfSome left (λ bytes. (rest : List ℕ) × (left_then ≡ Some rest) × BeginsWith bytes (Some next) rest)

-- frames as they are read
abbrev pub AreRead : List (Frame × Result Accepted FollowFault) → Type 0
AreRead [] = Unit {0}
AreRead (step ∷ earlier) = ((step.0.revision < 2 ^ 64) × (is_kind step.0.kind ≡ true) × (length step.0.payload ≤ most)) × AreRead earlier

-- a fact where a read failed
abbrev pub IfFailed : Stop → Type 0 → Type 0
IfFailed (Unread frame_fault.ReadFault) P = P
IfFailed stop P = Unit {0}

-- what became of a frame
abbrev pub OneIsAccepted : {D : Type 0} (g : Disks D) → Follower D g → Frame → Follower D g → Result (Option Accepted) Stop → Type 0
OneIsAccepted g old next new (Ok None) = ⊥
OneIsAccepted g old next new (Ok (Some accepted)) = Accepts old next (Ok accepted) new
OneIsAccepted g old next new (Err (Unread fault)) = ⊥
OneIsAccepted g old next new (Err (Refused fault)) = Accepts old next (Err fault) new

-- a frame was read and accepted, or the source ended, or why not
abbrev pub StepsOn : {J D : Type 0} (s : Sources J) (g : Disks D) → J → J → Follower D g → Follower D g → Result (Option Accepted) Stop → Type 0
StepsOn s g source source_then old new (Ok None) =
    (new ≡ old) × IfSome (s.left source) (λ bytes. (bytes ≡ []) × (s.left source_then ≡ Some [])) × (s.faults source_then ≡ s.faults source)
StepsOn s g source source_then old new (Ok (Some accepted)) =
    (next : Frame) × Reads (s.left source) next (s.left source_then) × Accepts old next (Ok accepted) new × (s.faults source_then ≡ s.faults source)
StepsOn s g source source_then old new (Err (Unread fault)) =
    (new ≡ old) × NextRefused (s.left source) (s.faults source) (s.faults source_then) fault
StepsOn s g source source_then old new (Err (Refused fault)) =
    (next : Frame) × Reads (s.left source) next (s.left source_then) × Accepts old next (Err fault) new × (s.faults source_then ≡ s.faults source)

-- no frame was refused
abbrev pub IsAnswered : Result Accepted FollowFault → Type 0
IsAnswered (Ok accepted) = Unit {0}
IsAnswered (Err fault) = ⊥

abbrev pub AreAnswered : List (Frame × Result Accepted FollowFault) → Type 0
AreAnswered [] = Unit {0}
AreAnswered (step ∷ earlier) = IsAnswered step.1 × AreAnswered earlier

-- the last one was, for this, and none before it
abbrev pub LastRefused : FollowFault → List (Frame × Result Accepted FollowFault) → Type 0
LastRefused fault [] = ⊥
LastRefused fault (step ∷ earlier) = (step.1 ≡ Err fault) × AreAnswered earlier

-- with which frame following ended; want of memory may come without one
abbrev pub EndsWith : {T : Type 0} → Result T Stop → List (Frame × Result Accepted FollowFault) → Type 0
EndsWith (Ok done) steps = AreAnswered steps
EndsWith (Err (Unread fault)) steps = AreAnswered steps
EndsWith (Err (Refused fault)) steps = LastRefused fault steps ⊎ ((fault ≡ follow_fault.Memory) × AreAnswered steps)

-- what stands behind these frames: nothing, what isn't a frame, or what wasn't read
abbrev pub StopsAt : {T : Type 0} → Result T Stop → List ℕ → Option (List ℕ) → Type 0
StopsAt (Ok done) rest left = (rest ≡ []) × (left ≡ Some [])
StopsAt (Err (Unread fault)) rest left = FrameRefused rest fault
StopsAt (Err (Refused fault)) rest left = left ≡ Some rest

-- A follower accepts the frames of a source, one after the other, up to its end or a refusal.
pub record Follows {J D T : Type 0} (s : Sources J) (g : Disks D) (source source_then : J) (old new : Follower D g) (tally tally_then : Tally) (result : Result T Stop) : Type 0 where
  pub steps : List (Frame × Result Accepted FollowFault)
  pub runs : Runs old steps new
  pub counts : tally_then ≡ tally_after tally steps
  pub ends : EndsWith result steps
  pub told : IfSome (s.left source) (λ bytes. (rest : List ℕ) × (bytes ≡ bytes_of steps ++ rest) × AreRead steps × StopsAt result rest (s.left source_then))
  pub rose : IfErr result (λ stop. IfFailed stop (Rose (s.faults source) (s.faults source_then)))
  pub sound : s.IsSound source → IfErr result (λ stop. IfFailed stop ⊥)

-- the same before the end
pub record IsLedOn {J D : Type 0} (s : Sources J) (g : Disks D) (source source_then : J) (old new : Follower D g) (tally tally_then : Tally) : Type 0 where
  pub steps : List (Frame × Result Accepted FollowFault)
  pub runs : Runs old steps new
  pub counts : tally_then ≡ tally_after tally steps
  pub answered : AreAnswered steps
  pub told : IfSome (s.left source) (λ bytes. (rest : List ℕ) × (s.left source_then ≡ Some rest) × (bytes ≡ bytes_of steps ++ rest) × AreRead steps)
  pub steady : s.faults source_then ≡ s.faults source
  pub sound : s.IsSound source → s.IsSound source_then
