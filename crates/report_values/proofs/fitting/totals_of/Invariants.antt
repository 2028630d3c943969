use Rattle.std.proofs.Common.{take}
use Rattle.report_values.specs.Totals.{AreTotals}
use Rattle.report_values.proofs.fitting.totals_of.Given as goal

abbrev pub invariant-loop-taking : goal.invariant-loop-taking
invariant-loop-taking l = AreTotals l.totals.entries (take l.taking-index l.takings)
