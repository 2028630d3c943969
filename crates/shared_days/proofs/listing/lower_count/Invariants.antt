use Rattle.std.proofs.Common.{◌≡◌, ◌+◌, ◌-◌, ◌≤◌, drop, length}
use Rattle.shared_days.specs.Places.{lower_count}
use Rattle.shared_days.proofs.listing.lower_count.Given as goal

-- those that were passed, and the others
abbrev pub invariant-loop-at : goal.invariant-loop-at
invariant-loop-at l = record {
  within : l.at ≤ length l.places;
  count : l.at + lower_count l.number (drop l.at l.places) ≡ lower_count l.number l.places;
}

abbrev pub decreases-loop-at : goal.decreases-loop-at
decreases-loop-at l = length l.places - l.at
