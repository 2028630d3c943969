use Rattle.std.proofs.Common.{◌≡◌, map, take}
use Rattle.report_cells.specs.declared.cells.CellRow.{CellRow}
use Rattle.index_cells.proofs.names.copied.Given as goal

abbrev pub invariant-loop-row : goal.invariant-loop-row
invariant-loop-row l = l.names.items ≡ map (λ (row : CellRow). row.account) (take l.row-index l.rows)
