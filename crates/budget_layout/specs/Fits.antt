-- Which cells a budget can sum.
use Rattle.std.specs.Prelude.{◌≡◌, true, false}
use Rattle.balance_rows.specs.declared.layout.Basis.TheVariants.{Changes}
use Rattle.balance_rows.specs.declared.layout.Layout.{Layout}
use Rattle.balance_rows.specs.declared.layout.Order.TheVariants.{Amounts}
use Rattle.balance_rows.specs.Fitting.{ColumnsFit, Fit}
use Rattle.balance_rows.specs.Sums.{entries_of}
use Rattle.balance_layouts.specs.Totals.{asks_totals, cells_of}
use Rattle.budget_layout.specs.Told.{Report}

-- The cells of each column can be summed; where rows stand by the amounts of changes, and where totals of rows are asked
-- for, those of all rows together; and the totals, where these and their total are shown.
pub record CellsFit (layout : Layout) (actual : Report) : Type 0 where
  pub columns : ColumnsFit actual.rows
  pub ranks : layout.order ≡ Amounts → layout.basis ≡ Changes → Fit (cells_of actual.rows)
  pub of_rows : asks_totals layout ≡ true → Fit (cells_of actual.rows)
  pub of_totals : asks_totals layout ≡ true → layout.no_total ≡ false → Fit (entries_of actual.totals)
