use Rattle.std.proofs.Common.{◌≡◌, ◌++◌}
use Rattle.balancing.proofs.groups.listed.Given as goal

abbrev pub invariant-loop-group : goal.invariant-loop-group
invariant-loop-group l = l.list.items ++ l.group-iterator ≡ l.set.keys
