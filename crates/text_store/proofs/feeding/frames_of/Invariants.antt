use Rattle.std.proofs.Common.{◌≡◌, ◌≤◌, ◌+◌, ◌*◌, ◌-◌, ◌^◌, ◌++◌, length}
use Rattle.text_store.specs.Frames.{base_of, frames_from, frames_of}
use Rattle.text_store.specs.Reads.{from_place}
use Rattle.text_store.proofs.feeding.frames_of.Given as goal

abbrev pub invariant-loop-record : goal.invariant-loop-record
invariant-loop-record l =
    (l.at ≤ length l.file)
    × (base_of l.file ≤ 2 ^ 62
    → (l.frames.items ++ frames_from l.revision (from_place l.file l.at) ≡ frames_of l.file) × (10 * l.revision ≤ 10 * base_of l.file + l.at))

abbrev pub decreases-loop-record : goal.decreases-loop-record
decreases-loop-record l = length l.file - l.at
