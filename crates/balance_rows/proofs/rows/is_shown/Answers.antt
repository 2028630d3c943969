use Rattle.std.proofs.Common.{◌≡◌, ◌<◌, true, length, sym, ap, ◌∙◌, arith, map}
use Rattle.std.specs.List.{list_any}
use Rattle.report_cells.specs.Report.{seen}
use Rattle.balance_rows.specs.Rows.{has_sums}
use Rattle.balance_rows.proofs.RowsLaws.{any_here}
use Rattle.balance_rows.proofs.rows.is_shown.Goals as goal

pub returns-then-has_sums : goal.returns-then-has_sums
returns-then-has_sums c =
    let within : c.loop-cell.cell-index < length c.as_slice-cell-items.result.now = omega arith in
    let here : has_sums (seen c.cell-item.result) ≡ true = sym c.has_sums.ensures ∙ c.if-has_sums.true in
    sym (ap (λ cells. list_any has_sums (map seen cells)) (sym c.as_slice-cell-items.ensures)
    ∙ any_here c.as_slice-cell-items.result.now c.loop-cell.cell-index c.cell-item.result within c.cell-item.is here)
