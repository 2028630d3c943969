-- Sums that are shown as those of a report.
use Rattle.std.specs.Prelude.{◌≡◌, ◌<◌, true, false, List, map, length, unwrap_or, Result, Ok, Err, IfSome}
use Rattle.hl_time.specs.Calendar.{day_end}
use Rattle.hl_time.specs.declared.spans.Period.{Period}
use Rattle.hl_time.specs.declared.spans.Span.{Span}
use Rattle.balance_rows.specs.Rows.{shown_rows}
use Rattle.report_cells.specs.Report.{row_seen, seen}
use Rattle.report_cells.specs.declared.cells.Cells.{Cells}
use Rattle.report_cells.specs.declared.fault.ReportFault.{ReportFault}
use Rattle.report_commands.specs.Answered.{sums_in}
use Rattle.report_commands.specs.Layouts.{is_table}
use Rattle.report_sums.specs.Celled.{Celled, cause}
use Rattle.report_sums.specs.Matters.{Matter}
use Rattle.report_sums.specs.Summed.{Summed}

-- from the bound that is given, or before all days, to the one that is given, or behind all days
abbrev pub wide_column : Period → Span
wide_column bounds = record { from = unwrap_or bounds.from 0; end = unwrap_or bounds.end day_end }

-- They have as many columns as the report, and the same ones in a table. All that has a sum, and the totals, are those of
-- the report.
pub record AreShownAs (m : Matter) (cells : Cells) : Type 0 where
  pub columns : List Span
  pub whole : Celled
  pub made : sums_in m ≡ Ok (columns, whole)
  pub fits : Summed m.asked.options.start (length columns) whole
  pub some : 0 < length columns
  pub count : length cells.columns ≡ length columns
  pub same : is_table m.asked.options ≡ true → cells.columns ≡ columns
  pub rows : shown_rows false (map row_seen cells.rows) ≡ shown_rows false whole.rows
  pub totals : map seen cells.totals ≡ whole.totals

-- or why there are none is why the report has none
abbrev pub Shown : Matter → Result Cells ReportFault → Type 0
Shown m (Ok cells) = AreShownAs m cells
Shown m (Err fault) = IfSome (cause fault) (λ f. sums_in m ≡ Err f)
