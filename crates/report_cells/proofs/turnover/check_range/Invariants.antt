use Rattle.std.proofs.Common.{take}
use Rattle.report_cells.proofs.Walking.{Checking}
use Rattle.report_cells.proofs.turnover.check_range.Given as goal

abbrev pub invariant-loop-taking : goal.invariant-loop-taking
invariant-loop-taking l = Checking l.kept.entries (take l.taking-index l.takings)
