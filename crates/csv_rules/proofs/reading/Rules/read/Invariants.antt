use Rattle.std.proofs.Common.{◌+◌, ◌≤◌, length}
use Rattle.query_terms.specs.Making.{Stays}
use Rattle.csv_rules.specs.Building.{AreBuilt, progress_sources}
use Rattle.csv_rules.specs.Drafts.{progress_of}
use Rattle.csv_rules.proofs.Progresses.{IsReached, IsTidy}
use Rattle.csv_rules.proofs.reading.Rules.read.Given as goal

abbrev pub invariant-loop-rest : goal.invariant-loop-rest
invariant-loop-rest g l = record {
  reached : IsReached l.text l.rest l.line (progress_of l.draft);
  tidy : IsTidy (progress_of l.draft);
  built : AreBuilt (progress_sources (progress_of l.draft)) l.regexes.items;
  stays : Stays (g.M.Maker.refusals l.fn.maker) (g.M.Maker.refusals l.maker) (g.M.Maker.last_refused l.fn.maker) (g.M.Maker.last_refused l.maker);
  room : l.line + length l.rest ≤ length l.text + 1;
}

abbrev pub decreases-loop-rest : goal.decreases-loop-rest
decreases-loop-rest g l = length l.rest
