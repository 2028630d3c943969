use Rattle.std.proofs.Common.{◌≡◌, length}
use Rattle.local_day.specs.Naming as spec
use Rattle.local_day.proofs.naming.climbs.Given as goal

abbrev pub invariant-loop-byte : goal.invariant-loop-byte
invariant-loop-byte l = spec.climbs l.left ≡ spec.climbs l.name

abbrev pub decreases-loop-byte : goal.decreases-loop-byte
decreases-loop-byte l = length l.left
