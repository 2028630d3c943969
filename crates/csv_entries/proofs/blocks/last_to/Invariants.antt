use Rattle.std.proofs.Common.{◌≡◌, length}
use Rattle.csv_entries.specs.Blocks.{last_to}
use Rattle.csv_entries.proofs.blocks.last_to.Given as goal

abbrev pub invariant-loop-last : goal.invariant-loop-last
invariant-loop-last l = last_to l.field l.assignments ≡ last_to l.field l.rest

abbrev pub decreases-loop-last : goal.decreases-loop-last
decreases-loop-last l = length l.rest
