use Rattle.std.proofs.Common.{◌-◌, ◌≤◌, length}
use Rattle.placed_sums.specs.Placing.{below_count}
use Rattle.placed_sums.proofs.days.first_from.Given as goal

-- the place to be found lies between
abbrev pub invariant-loop-low : goal.invariant-loop-low
invariant-loop-low l = record {
  above : l.low ≤ below_count l.place l.places;
  beneath : below_count l.place l.places ≤ l.high;
  within : l.high ≤ length l.places;
}

abbrev pub decreases-loop-low : goal.decreases-loop-low
decreases-loop-low l = l.high - l.low
