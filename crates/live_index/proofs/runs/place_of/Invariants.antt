use Rattle.std.proofs.Common.{◌-◌, ◌≤◌, length}
use Rattle.live_index.specs.Runs.{place_in}
use Rattle.live_index.proofs.runs.place_of.Given as goal

abbrev pub invariant-loop-low : goal.invariant-loop-low
invariant-loop-low l = record {
  above : l.low ≤ place_in l.runs l.end;
  below : place_in l.runs l.end ≤ l.high;
  within : l.high ≤ length l.runs;
}

abbrev pub decreases-loop-low : goal.decreases-loop-low
decreases-loop-low l = l.high - l.low
