use Rattle.std.proofs.Common.{◌+◌, ◌-◌, ◌≤◌, map, length, drop}
use Rattle.std.specs.Arc.{arc_value}
use Rattle.live_index.proofs.CellLaws.{Joining}
use Rattle.live_index.proofs.cells.joined.Given as goal

-- what is done and what is left have the sums of both lists
abbrev pub invariant-loop-at : goal.invariant-loop-at
invariant-loop-at l = record {
  within : l.at ≤ length l.first;
  inside : l.other ≤ length l.second;
  sums : Joining (map arc_value l.first) (map arc_value l.second) (map arc_value l.both.items) (map arc_value (drop l.at l.first)) (map arc_value (drop l.other l.second));
}

abbrev pub decreases-loop-at : goal.decreases-loop-at
decreases-loop-at l = (length l.first - l.at) + (length l.second - l.other)
