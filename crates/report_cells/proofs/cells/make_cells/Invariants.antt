use Rattle.std.proofs.Common.{take}
use Rattle.report_cells.specs.Gathered.{Gathers}
use Rattle.report_cells.proofs.cells.make_cells.Given as goal

abbrev pub invariant-loop-taking : goal.invariant-loop-taking
invariant-loop-taking l = Gathers l.fn.columns l.fn.reach (take l.taking-index l.takings) l.gatherer
