use Rattle.std.proofs.Common.{◌≡◌}
use Rattle.query.specs.Matching.{under}
use Rattle.query.proofs.matching.under.Given as goal

abbrev pub invariant-loop-not : goal.invariant-loop-not
invariant-loop-not l = l.said ≡ under l._not l.holds
