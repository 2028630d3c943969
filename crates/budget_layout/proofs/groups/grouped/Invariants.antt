use Rattle.std.proofs.Common.{◌≡◌}
use Rattle.budget_layout.specs.Grouped.{groups_of, ungrouped}
use Rattle.budget_layout.specs.Placed.{place_in}
use Rattle.budget_layout.proofs.groups.grouped.Given as goal

abbrev pub invariant-loop-row : goal.invariant-loop-row
invariant-loop-row l = record {
  groups : l.groups.items ≡ groups_of (place_in l.places) l.count l.yielded;
  rest : l.rest ≡ ungrouped (place_in l.places) l.yielded;
}
