use Rattle.std.proofs.Common.{◌≡◌, [], replicate}
use Rattle.budget_layout.proofs.groups.empty_groups.Given as goal

abbrev pub invariant-loop-made : goal.invariant-loop-made
invariant-loop-made l = l.groups.items ≡ replicate l._made []
