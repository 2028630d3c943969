use Rattle.report_cells.proofs.Walking.{Summing}
use Rattle.report_cells.proofs.running.running_sums.Given as goal

abbrev pub invariant-loop-change : goal.invariant-loop-change
invariant-loop-change l = Summing l.sofar l.cells.items l.changes l.change-index
