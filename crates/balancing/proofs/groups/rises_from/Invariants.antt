use Rattle.std.proofs.Common.{◌≡◌, drop}
use Rattle.balancing.specs.Groups.{rises_from}
use Rattle.balancing.proofs.groups.rises_from.Given as goal

abbrev pub invariant-loop-group : goal.invariant-loop-group
invariant-loop-group l = rises_from l.fn.first l.groups ≡ rises_from l.last (drop l.group-index l.groups)
