use Rattle.std.proofs.Common.{◌≡◌, drop}
use Rattle.query.specs.Matching.{least, depth_in}
use Rattle.query.proofs.queries.Query.depth.Given as goal

abbrev pub invariant-loop-term : goal.invariant-loop-term
invariant-loop-term l = depth_in l.self.terms.items ≡ least l.depth (depth_in (drop l.term-index l.self.terms.items))
