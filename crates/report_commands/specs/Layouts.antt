-- What the options of a report ask of its layout.
use Rattle.std.specs.Prelude.{Bool, false, ◌||◌, is_some, if◌then◌else◌}
use Rattle.balance_rows.specs.declared.layout.Basis.{Basis}
use Rattle.balance_rows.specs.declared.layout.Basis.TheVariants.{Changes, Cumulative, Historical}
use Rattle.balance_rows.specs.declared.layout.Layout.{Layout}
use Rattle.balance_rows.specs.declared.layout.Order.{Order}
use Rattle.balance_rows.specs.declared.layout.Order.TheVariants.{Accounts, Amounts, Tree}
use Rattle.report_options.specs.declared.options.Options.{Options}
use Rattle.report_options.specs.declared.options.Start.{Start}
use Rattle.report_options.specs.declared.options.Start.TheVariants as starts

-- what a column counts
abbrev pub basis_of : Start → Basis
basis_of starts.Change = Changes
basis_of starts.Cumulative = Cumulative
basis_of starts.Historical = Historical

-- a tree has its own order
abbrev pub order_of : Options → Order
order_of options = if options.tree then Tree else if options.sort_amount then Amounts else Accounts

-- a report with an interval is a table, and one with a budget
abbrev pub is_table : Options → Bool
is_table options = is_some options.bounds.interval || options.budget

-- what is asked of rows of changes; those of ending balances have no totals
abbrev pub of_changes : Start → Bool → Bool
of_changes starts.Change asked = asked
of_changes starts.Cumulative asked = false
of_changes starts.Historical asked = false

-- what the options of a report ask of its layout
abbrev pub layout_of : Options → Layout
layout_of options = record {
  basis = basis_of options.start;
  order = order_of options;
  table = is_table options;
  empty = options.empty;
  no_total = options.no_total;
  row_total = of_changes options.start options.row_total;
  average = of_changes options.start options.average;
}
