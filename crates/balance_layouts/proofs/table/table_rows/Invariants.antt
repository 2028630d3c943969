use Rattle.std.proofs.Common.{◌≡◌, map}
use Rattle.book.specs.Styles.{style_in}
use Rattle.report_cells.specs.Report.{row_seen}
use Rattle.balance_layouts.specs.Averages.{least_with}
use Rattle.balance_layouts.specs.TableRows.{named_seen}
use Rattle.balance_layouts.specs.Totals.{rows_out, table_row}
use Rattle.balance_layouts.proofs.table.table_rows.Given as goal

abbrev pub invariant-loop-row : goal.invariant-loop-row
invariant-loop-row l = record {
  rows : map named_seen l.made.items ≡ map (table_row l.layout l.columns (style_in l.styles)) (map row_seen l.yielded);
  least : l.least ≡ least_with l.initial.least (rows_out l.layout l.columns (style_in l.styles) (map row_seen l.yielded));
}
