-- The rows of a report in their order, and their names.
use Rattle.std.specs.Prelude.{ℕ, ◌-◌, List, length}
use Rattle.report_cells.specs.Report.{Sums}
use Rattle.balance_rows.specs.declared.layout.Basis.{Basis}
use Rattle.balance_rows.specs.declared.layout.Basis.TheVariants.{Changes, Cumulative, Historical}
use Rattle.balance_rows.specs.declared.layout.Layout.{Layout}
use Rattle.balance_rows.specs.declared.layout.Order.{Order}
use Rattle.balance_rows.specs.declared.layout.Order.TheVariants.{Accounts, Amounts, Tree}
use Rattle.balance_rows.specs.Orders.{row_cmp, sorted}
use Rattle.balance_rows.specs.Rows.{Row, cell_at, shown_rows}
use Rattle.balance_rows.specs.Sums.{summed}
use Rattle.balance_rows.specs.Trees.{indented, tree}

-- what rows stand by: those of changes by their totals, and those of ending balances by their last cells
abbrev pub amount_in : Basis → Row → Sums
amount_in Changes row = summed row.1
amount_in Cumulative row = cell_at (length row.1 - 1) row.1
amount_in Historical row = cell_at (length row.1 - 1) row.1

-- rows by their amounts, the greater first, and then by their accounts
abbrev pub by_amounts : Basis → List Row → List Row
by_amounts basis rows = sorted (row_cmp (amount_in basis)) rows

-- the rows of so many columns in an order
abbrev pub in_order : Order → Basis → ℕ → List Row → List Row
in_order Accounts basis columns rows = rows
in_order Amounts basis columns rows = by_amounts basis rows
in_order Tree basis columns rows = tree columns rows

-- how an account is shown
abbrev pub name_in : Order → List ℕ → List ℕ
name_in Accounts account = account
name_in Amounts account = account
name_in Tree account = indented account

-- the rows that stay, in their order
abbrev pub laid_rows : Layout → ℕ → List Row → List Row
laid_rows layout columns rows = in_order layout.order layout.basis columns (shown_rows layout.empty rows)
