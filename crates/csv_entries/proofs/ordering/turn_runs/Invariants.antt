use Rattle.std.proofs.Common.{◌≡◌, ◌≤◌, ◌-◌, ◌++◌, length, take, drop}
use Rattle.csv_entries.specs.Ordering.{turned_runs}
use Rattle.csv_entries.proofs.ordering.turn_runs.Given as goal

abbrev pub invariant-loop-at : goal.invariant-loop-at
invariant-loop-at l = record {
  within : l.at ≤ length l.txns;
  so_far : turned_runs l.fn.txns ≡ take l.at l.txns ++ turned_runs (drop l.at l.txns);
}

abbrev pub decreases-loop-at : goal.decreases-loop-at
decreases-loop-at l = length l.txns - l.at
