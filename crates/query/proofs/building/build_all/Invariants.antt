use Rattle.std.proofs.Common.{take}
use Rattle.query.specs.Building.{AreBuilt}
use Rattle.query_terms.specs.Making.{Stays}
use Rattle.query_terms.specs.Reading.{sources_of}
use Rattle.query.proofs.building.build_all.Given as goal

abbrev pub invariant-loop-i : goal.invariant-loop-i
invariant-loop-i g l = record {
  built : AreBuilt (sources_of (take l.i l.terms)) l.regexes.items;
  stays : Stays (g.M.Maker.refusals l.fn.maker) (g.M.Maker.refusals l.maker) (g.M.Maker.last_refused l.fn.maker) (g.M.Maker.last_refused l.maker);
}
