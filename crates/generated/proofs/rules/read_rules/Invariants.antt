use Rattle.std.proofs.Common.{take}
use Rattle.query_terms.specs.Making.{Stays}
use Rattle.generated.specs.Queries.{AreRead}
use Rattle.generated.specs.Rules.{autos_of}
use Rattle.generated.proofs.rules.read_rules.Given as goal

abbrev pub invariant-loop-placed : goal.invariant-loop-placed
invariant-loop-placed g l = record {
  read : AreRead l.day.0 (autos_of (take l.placed-index l.placed-items)) l.reads.items;
  stays : Stays (g.M.Maker.refusals l.fn.maker) (g.M.Maker.refusals l.maker) (g.M.Maker.last_refused l.fn.maker) (g.M.Maker.last_refused l.maker);
}
