use Rattle.std.proofs.Common.{◌≡◌, map}
use Rattle.report_cells.specs.Kept.{finished_row}
use Rattle.report_cells.proofs.cells.cell_rows.Given as goal

abbrev pub invariant-loop-key : goal.invariant-loop-key
invariant-loop-key l = l.cells.items ≡ map (finished_row l.reach) l.yielded
