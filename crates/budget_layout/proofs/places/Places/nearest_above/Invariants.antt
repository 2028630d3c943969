use Rattle.std.proofs.Common.{◌≡◌, ◌≤◌, length}
use Rattle.budget_layout.specs.Grouped.{fronts, last_place}
use Rattle.budget_layout.specs.Placed.{place_in}
use Rattle.budget_layout.proofs.places.Places.nearest_above.Given as goal

abbrev pub invariant-loop-at : goal.invariant-loop-at
invariant-loop-at l = record {
  so_far : last_place (place_in l.self) (fronts l.account (length l.account)) ≡ last_place (place_in l.self) (fronts l.account l.at);
  within : l.at ≤ length l.account;
}

abbrev pub decreases-loop-at : goal.decreases-loop-at
decreases-loop-at l = l.at
