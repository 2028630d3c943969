-- The table of a balance report.
use Rattle.std.specs.Prelude.{ℕ, ℤ, List, [], ◌∷◌, map, length, Some, None, if◌then◌else◌}
use Rattle.hl_num.specs.Decimal.{Decimal}
use Rattle.hl_time.specs.declared.spans.Span.{Span}
use Rattle.book.specs.declared.style.Style.{Style}
use Rattle.report_cells.specs.Report.{Sums}
use Rattle.report_table.specs.Cells.{Cell}
use Rattle.report_table.specs.Tables.{table_text}
use Rattle.report_table.specs.declared.table.Section.{Section}
use Rattle.report_table.specs.declared.table.Table2.{Table2}
use Rattle.balance_rows.specs.declared.layout.Layout.{Layout}
use Rattle.balance_rows.specs.Rows.{Row}
use Rattle.balance_layouts.specs.Titles.{heads_of, title_of}
use Rattle.balance_layouts.specs.Totals.{table_row, with_total}

-- a value of so many units, told exactly
abbrev pub exact : List ℕ × ℤ → List ℕ × Decimal
exact sum = (sum.0, record { mantissa = sum.1; places = 36 })

abbrev pub exact_cell : Sums → Cell
exact_cell sums = map exact sums

abbrev pub exact_row : Row → List ℕ × List Cell
exact_row row = (row.0, map exact_cell row.1)

abbrev pub section_of : Layout → ℕ → (List ℕ → Style) → List Row → List Sums → Section
section_of layout columns style rows totals = record {
  name = None;
  rows = map (λ row. exact_row (table_row layout columns style row)) rows;
  totals = if layout.no_total then None else Some (map exact_cell (with_total layout columns style totals));
}

abbrev pub table_of : Layout → (List ℕ → Style) → List Span → List Row → List Sums → Table2
table_of layout style columns rows totals = record {
  title = title_of layout.basis columns;
  heads = heads_of layout columns;
  sections = section_of layout (length columns) style rows totals ∷ [];
  last = None;
}

-- The table of rows that stand in their order.
abbrev pub balance_table : Layout → (List ℕ → Style) → List Span → List Row → List Sums → List ℕ
balance_table layout style columns rows totals = table_text style (table_of layout style columns rows totals)
