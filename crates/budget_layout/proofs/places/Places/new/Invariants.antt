use Rattle.std.proofs.Common.{◌≡◌, ◌≤◌, ℕ, List, drop, length}
use Rattle.std.specs.HashMap.{get_by_text}
use Rattle.budget_layout.specs.Grouped.{names_of, place_from}
use Rattle.budget_layout.proofs.places.Places.new.Given as goal

abbrev pub invariant-loop-at : goal.invariant-loop-at
invariant-loop-at l = record {
  within : l.at ≤ length l.rows;
  is : (name : List ℕ) → get_by_text l.places name ≡ place_from l.at (drop l.at (names_of l.rows)) name;
}

abbrev pub decreases-loop-at : goal.decreases-loop-at
decreases-loop-at l = l.at
