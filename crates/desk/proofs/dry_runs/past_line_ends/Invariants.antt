use Rattle.std.proofs.Common.{◌≡◌, length}
use Rattle.desk.specs.Previews.{past_line_ends}
use Rattle.desk.proofs.dry_runs.past_line_ends.Given as goal

abbrev pub invariant-loop-byte : goal.invariant-loop-byte
invariant-loop-byte l = past_line_ends l.bytes ≡ past_line_ends l.left

abbrev pub decreases-loop-byte : goal.decreases-loop-byte
decreases-loop-byte l = length l.left
