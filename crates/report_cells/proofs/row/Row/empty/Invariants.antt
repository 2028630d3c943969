use Rattle.std.proofs.Common.{◌≡◌, replicate, []}
use Rattle.report_cells.proofs.row.Row.empty.Given as goal

abbrev pub invariant-loop-column : goal.invariant-loop-column
invariant-loop-column l = l.cells.items ≡ replicate l._column []
