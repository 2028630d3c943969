-- The text of a balance report, and why it can't be made.
use Rattle.std.specs.Prelude.{◌≡◌, ℕ, true, List, length, Option, Some, None, if◌then◌else◌}
use Rattle.hl_time.specs.declared.spans.Span.{Span}
use Rattle.book.specs.declared.style.Style.{Style}
use Rattle.report_cells.specs.declared.fault.ReportFault.{ReportFault}
use Rattle.report_cells.specs.declared.fault.ReportFault.TheVariants.{Range, TooWide, Memory}
use Rattle.report_cells.specs.Report.{Sums}
use Rattle.report_cells.specs.declared.reach.Reach.{Reach}
use Rattle.report_cells.specs.declared.reach.Reach.TheVariants.{Within}
use Rattle.balance_rows.specs.declared.layout.Basis.TheVariants.{Changes}
use Rattle.balance_rows.specs.declared.layout.Layout.{Layout}
use Rattle.balance_rows.specs.Fitting.{OrderFits}
use Rattle.balance_rows.specs.Layouts.{laid_rows}
use Rattle.balance_rows.specs.Rows.{Row}
use Rattle.balance_layouts.specs.Lists.{balance_list}
use Rattle.balance_layouts.specs.Tables.{balance_table}
use Rattle.balance_layouts.specs.Totals.{TotalsFit, asks_totals, first_out}

-- the rows that stay, in their order, as a table or a list
abbrev pub balance_text : Layout → (List ℕ → Style) → List Span → List Row → List Sums → List ℕ
balance_text layout style columns rows totals =
    let laid = laid_rows layout (length columns) rows in
    if layout.table then balance_table layout style columns laid totals else balance_list layout style laid totals

-- the least symbol in which an average can't be told; a list has none
abbrev pub out_of_range : Layout → ℕ → (List ℕ → Style) → List Row → List Sums → Option (List ℕ)
out_of_range layout columns style rows totals =
    if layout.table then first_out layout columns style (laid_rows layout columns rows) totals else None

-- that symbol is told; want of memory says nothing
abbrev pub IsFault : Option (List ℕ) → ReportFault → Type 0
IsFault out (Range symbol) = out ≡ Some symbol
IsFault out (TooWide columns limit) = ⊥
IsFault out Memory = Unit {0}

-- The sums that the layout asks for can be made: those of its order, and the totals of the rows that stand in a table.
pub record CellsFit (layout : Layout) (columns : ℕ) (rows : List Row) (totals : List Sums) : Type 0 where
  pub order_fits : OrderFits layout.order layout.basis rows
  pub totals_fit : layout.table ≡ true → TotalsFit layout (laid_rows layout columns rows) totals

-- ---- which cells of a report fit

-- A column counts its own days where rows stand by their changes, and where totals of rows are asked for.
pub record CountsChanges (layout : Layout) (reach : Reach) : Type 0 where
  pub changes : layout.basis ≡ Changes → reach ≡ Within
  pub totals : asks_totals layout ≡ true → reach ≡ Within
