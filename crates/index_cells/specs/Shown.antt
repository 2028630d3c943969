-- Sums beside which accounts without any may stand.
use Rattle.std.specs.Prelude.{◌≡◌, false, List, map, None, Result, Ok, Err}
use Rattle.hl_time.specs.declared.spans.Span.{Span}
use Rattle.balance_rows.specs.Rows.{shown_rows}
use Rattle.report_cells.specs.Bounds.{first_out}
use Rattle.report_cells.specs.Faults.{IsFault}
use Rattle.report_cells.specs.Report.{row_seen, rows_in, seen, totals_in}
use Rattle.report_cells.specs.Taken.{Taken}
use Rattle.report_cells.specs.declared.cells.Cells.{Cells}
use Rattle.report_cells.specs.declared.fault.ReportFault.{ReportFault}
use Rattle.report_cells.specs.declared.reach.Reach.{Reach}

-- Cells are the sums of these takings by these columns, and no symbol is out of range. A row whose sums are all zero may
-- stand for an account without takings.
pub record ShowSumsOf (columns : List Span) (reach : Reach) (ts : List Taken) (cells : Cells) : Type 0 where
  pub by_columns : cells.columns ≡ columns
  pub rows : shown_rows false (map row_seen cells.rows) ≡ shown_rows false (rows_in reach columns ts)
  pub totals : map seen cells.totals ≡ totals_in reach columns ts
  pub within : first_out ts ≡ None

-- so are those that are answered, or a symbol is out of range
abbrev pub Shows : List Span → Reach → List Taken → Result Cells ReportFault → Type 0
Shows columns reach ts (Ok cells) = ShowSumsOf columns reach ts cells
Shows columns reach ts (Err fault) = IsFault ts fault
