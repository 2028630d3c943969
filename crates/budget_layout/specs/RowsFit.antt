-- Which rows of a budget can be summed.
use Rattle.std.specs.Prelude.{◌≡◌, List, true, Option, OnSome}
use Rattle.std.specs.List.{AllByRecursion}
use Rattle.report_cells.specs.Report.{Sums}
use Rattle.balance_rows.specs.declared.layout.Basis.TheVariants.{Changes}
use Rattle.balance_rows.specs.declared.layout.Layout.{Layout}
use Rattle.balance_rows.specs.declared.layout.Order.TheVariants.{Amounts}
use Rattle.balance_rows.specs.Fitting.{ColumnsFit, Fit, RowFits}
use Rattle.balance_rows.specs.Rows.{Row}
use Rattle.balance_rows.specs.Sums.{entries_of}
use Rattle.balance_layouts.specs.Totals.{asks_totals, cells_of}

-- the cells of each column, and all where rows stand by the amounts of changes
pub record RowsFit (layout : Layout) (rows : List Row) : Type 0 where
  pub columns : ColumnsFit rows
  pub ranks : layout.order ≡ Amounts → layout.basis ≡ Changes → Fit (cells_of rows)

-- where totals of rows are asked for, the cells of each row, and the totals where they are shown
pub record LinesFit (layout : Layout) (rows rest : List Row) (totals : List Sums) (shown : Option (List Sums)) : Type 0 where
  pub of_rows : asks_totals layout ≡ true → AllByRecursion RowFits rows
  pub of_rest : asks_totals layout ≡ true → AllByRecursion RowFits rest
  pub of_totals : asks_totals layout ≡ true → OnSome shown (Fit (entries_of totals))
