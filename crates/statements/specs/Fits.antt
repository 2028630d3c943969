-- Which cells of a report a statement can sum.
use Rattle.std.specs.Prelude.{◌≡◌, ℕ, true, List, ◌++◌, map}
use Rattle.std.specs.List.{AllByRecursion}
use Rattle.report_cells.specs.Report.{Sums}
use Rattle.balance_rows.specs.declared.layout.Basis.TheVariants.{Changes}
use Rattle.balance_rows.specs.declared.layout.Layout.{Layout}
use Rattle.balance_rows.specs.declared.layout.Order.TheVariants.{Amounts}
use Rattle.balance_rows.specs.Fitting.{ColumnsFit, Fit, OrderFits, RowFits, column_entries}
use Rattle.balance_rows.specs.Layouts.{laid_rows}
use Rattle.balance_rows.specs.Rows.{Row}
use Rattle.balance_rows.specs.Sums.{entries_of}
use Rattle.balance_layouts.specs.Totals.{asks_totals, cells_of}

-- The cells of each column can be summed; where rows stand by the amounts of changes, those of each row; and where
-- totals of rows are asked for, those of all rows together.
pub record CellsFit (layout : Layout) (rows : List Row) : Type 0 where
  pub columns : ColumnsFit rows
  pub ranks : layout.order ≡ Amounts → layout.basis ≡ Changes → AllByRecursion RowFits rows
  pub totals : asks_totals layout ≡ true → Fit (cells_of rows)

-- ---- the same of parts

-- the cells of two sections
pub record PartsFit (layout : Layout) (first second : List Row) : Type 0 where
  pub columns : (at : ℕ) → Fit (column_entries at first ++ column_entries at second)
  pub first_ranks : layout.order ≡ Amounts → layout.basis ≡ Changes → AllByRecursion RowFits first
  pub second_ranks : layout.order ≡ Amounts → layout.basis ≡ Changes → AllByRecursion RowFits second
  pub totals : asks_totals layout ≡ true → Fit (cells_of first ++ cells_of second)

-- the rows of a section in their order, and its totals
pub record SectionFits (layout : Layout) (columns : ℕ) (rows : List Row) (totals : List Sums) : Type 0 where
  pub order : OrderFits layout.order layout.basis rows
  pub of_rows : asks_totals layout ≡ true → AllByRecursion RowFits (laid_rows layout columns rows)
  pub of_totals : asks_totals layout ≡ true → Fit (entries_of totals)

-- the totals of two sections, and what they come to
pub record NetFits (layout : Layout) (rows : List Row) : Type 0 where
  pub columns : ColumnsFit rows
  pub totals : asks_totals layout ≡ true → Fit (cells_of rows)
