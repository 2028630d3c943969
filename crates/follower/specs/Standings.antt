-- Where a frame stands beside a revision.
use Rattle.std.specs.Prelude.{◌≡◌, ◌⊎◌, ℕ, ◌+◌, ◌<◌, ◌≤◌}
use Rattle.follower.specs.declared.frame.Frame.{Frame}
use Rattle.follower.specs.declared.standing.Standing.{Standing}
use Rattle.follower.specs.declared.standing.Standing.TheVariants.{Old, Next, Gap}
use Rattle.text_store.specs.Kinds.{image_kind}

-- a frame that is looked at: a later C, or the next change
pub record IsNext (had : ℕ) (frame : Frame) : Type 0 where
  pub later : had < frame.revision
  pub next : (frame.kind ≡ image_kind) ⊎ (frame.revision ≡ had + 1)

-- a frame of a revision that was there, one that is looked at, or a change before which another one is missing
abbrev pub IsStanding : ℕ → Frame → Standing → Type 0
IsStanding had frame Old = frame.revision ≤ had
IsStanding had frame Next = IsNext had frame
IsStanding had frame Gap = (had + 1 < frame.revision) × (frame.kind ≡ image_kind → ⊥)
