use Rattle.std.proofs.Common.{◌≡◌, length}
use Rattle.std.specs.List.{flat_map}
use Rattle.csv_entries.specs.Blocks.{assigned, last_to}
use Rattle.csv_entries.proofs.blocks.last_action.Given as goal

abbrev pub invariant-loop-last : goal.invariant-loop-last
invariant-loop-last l = last_to l.field (flat_map assigned l.actions) ≡ last_to l.field (flat_map assigned l.rest)

abbrev pub decreases-loop-last : goal.decreases-loop-last
decreases-loop-last l = length l.rest
