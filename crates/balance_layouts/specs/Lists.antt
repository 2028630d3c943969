-- The balance list: a line for each amount of each account, dashes, and the total.
use Rattle.std.specs.Prelude.{ℕ, List, ◌++◌, map, if◌then◌else◌}
use Rattle.std.specs.List.{flat_map}
use Rattle.book.specs.declared.style.Style.{Style}
use Rattle.report_cells.specs.Report.{Sums}
use Rattle.report_table.specs.Cells.{widest}
use Rattle.balance_rows.specs.declared.layout.Layout.{Layout}
use Rattle.balance_rows.specs.Layouts.{name_in}
use Rattle.balance_rows.specs.Rows.{Row, first_cell}
use Rattle.balance_layouts.specs.Shown.{Printed, end_lines, printed_row, row_lines, texts_of}

-- the least number of columns of the amounts
abbrev pub least_columns : ℕ
least_columns = 20

-- a list of printed rows above dashes and a total
abbrev pub list_above : ℕ → List Printed → List (List ℕ) → List ℕ
list_above width rows total = flat_map (row_lines width) rows ++ end_lines width total

-- The balance list of rows that stand in their order. Amounts are as wide as the widest of those that are shown.
abbrev pub balance_list : Layout → (List ℕ → Style) → List Row → List Sums → List ℕ
balance_list layout style rows totals =
    let shown = map (printed_row (name_in layout.order) style) rows in
    let total = texts_of style (first_cell totals) in
    let of_rows = flat_map (λ row. row.1) shown in
    if layout.no_total
    then flat_map (row_lines (widest least_columns of_rows)) shown
    else list_above (widest least_columns (of_rows ++ total)) shown total
