use Rattle.std.proofs.Math.Seq.{map-set_same}
use Rattle.query_terms.specs.Finders.{one_known}
use Rattle.query_terms.proofs.finding.source_found.Goals as goal

pub returns-in-Some-clause-same : goal.returns-in-Some-clause-same
returns-in-Some-clause-same c = map-set_same one_known c.args.sought.now c.in-Some.i c.is_found.new.self c.index-sought-i.result c.is_found.ensures.same
