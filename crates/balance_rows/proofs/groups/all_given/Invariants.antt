use Rattle.std.proofs.Common.{◌≡◌, map, take}
use Rattle.report_cells.specs.declared.cells.CellRow.{CellRow}
use Rattle.balance_rows.proofs.groups.all_given.Given as goal

abbrev pub invariant-loop-row : goal.invariant-loop-row
invariant-loop-row l = l.given.items ≡ map (λ (row : CellRow). row.cells) (take l.row-index l.rows)
