use Rattle.std.proofs.Common.{◌≡◌, map, take, false}
use Rattle.std.specs.List.{list_any}
use Rattle.report_cells.specs.Report.{seen}
use Rattle.balance_rows.specs.Rows.{has_sums}
use Rattle.balance_rows.proofs.rows.is_shown.Given as goal

abbrev pub invariant-loop-cell : goal.invariant-loop-cell
invariant-loop-cell l = list_any has_sums (map seen (take l.cell-index l.cell-items)) ≡ false
