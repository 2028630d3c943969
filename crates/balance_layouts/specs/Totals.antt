-- What a table shows behind the cells of its rows and of its totals.
use Rattle.std.specs.Prelude.{◌≡◌, ℕ, Bool, ◌||◌, true, false, List, [], ◌∷◌, ◌++◌, map, Option, if◌then◌else◌}
use Rattle.std.specs.List.{flat_map, AllByRecursion}
use Rattle.book.specs.declared.style.Style.{Style}
use Rattle.report_cells.specs.Report.{Sums}
use Rattle.balance_rows.specs.declared.layout.Layout.{Layout}
use Rattle.balance_rows.specs.Fitting.{Fit, RowFits}
use Rattle.balance_rows.specs.Layouts.{name_in}
use Rattle.balance_rows.specs.Rows.{Row}
use Rattle.balance_rows.specs.Sums.{entries_of, summed}
use Rattle.balance_layouts.specs.Averages.{averages, least, symbols_out}

-- cells, and behind them their total and its average by the number of columns, where these are asked for
abbrev pub with_total : Layout → ℕ → (List ℕ → Style) → List Sums → List Sums
with_total layout columns style cells =
    cells
    ++ (if layout.row_total then summed cells ∷ [] else [])
    ++ (if layout.average then averages columns style (summed cells) ∷ [] else [])

-- a row of a table, with its name
abbrev pub table_row : Layout → ℕ → (List ℕ → Style) → Row → Row
table_row layout columns style row = (name_in layout.order row.0, with_total layout columns style row.1)

-- the symbols in which the average of some cells is asked for and can't be told
abbrev pub outs_of : Layout → ℕ → (List ℕ → Style) → List Sums → List (List ℕ)
outs_of layout columns style cells = if layout.average then symbols_out columns style (summed cells) else []

-- the same of some rows
abbrev pub rows_out : Layout → ℕ → (List ℕ → Style) → List Row → List (List ℕ)
rows_out layout columns style rows = flat_map (λ row. outs_of layout columns style row.1) rows

-- the same of the totals, where these are shown
abbrev pub totals_out : Layout → ℕ → (List ℕ → Style) → List Sums → List (List ℕ)
totals_out layout columns style totals = if layout.no_total then [] else outs_of layout columns style totals

-- the least symbol in which an average of a table can't be told
abbrev pub first_out : Layout → ℕ → (List ℕ → Style) → List Row → List Sums → Option (List ℕ)
first_out layout columns style rows totals =
    least (rows_out layout columns style rows ++ totals_out layout columns style totals)

-- the total of a row is asked for
abbrev pub asks_totals : Layout → Bool
asks_totals layout = layout.row_total || layout.average

-- the entries of all cells of some rows
abbrev pub cells_of : List Row → Sums
cells_of rows = entries_of (map (λ row. entries_of row.1) rows)

-- Where totals of rows are asked for, they can be made, and that of the totals where these are shown.
pub record TotalsFit (layout : Layout) (rows : List Row) (totals : List Sums) : Type 0 where
  pub of_rows : asks_totals layout ≡ true → AllByRecursion RowFits rows
  pub of_totals : asks_totals layout ≡ true → layout.no_total ≡ false → Fit (entries_of totals)
