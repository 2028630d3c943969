-- What the rows and totals of a table say.
use Rattle.std.specs.Prelude.{◌≡◌, ℕ, List, map, Option, Some, None, if◌then◌else◌}
use Rattle.book.specs.declared.style.Style.{Style}
use Rattle.report_cells.specs.Report.{Sums, seen}
use Rattle.report_table.specs.Cells.{Cell}
use Rattle.report_table.specs.declared.table.Section.{Section}
use Rattle.balance_rows.specs.declared.layout.Layout.{Layout}
use Rattle.balance_rows.specs.Rows.{Row}
use Rattle.balance_layouts.specs.Totals.{table_row, with_total}

abbrev pub named_seen : List ℕ × List Cell → Row
named_seen row = (row.0, map seen row.1)

abbrev pub seen_totals : Option (List Cell) → Option (List Sums)
seen_totals None = None
seen_totals (Some cells) = Some (map seen cells)

-- A section without a name, whose rows and totals say what a table of some rows and totals shows.
pub record IsSection (layout : Layout) (columns : ℕ) (style : List ℕ → Style) (rows : List Row) (totals : List Sums) (section : Section) : Type 0 where
  pub unnamed : section.name ≡ None
  pub of_rows : map named_seen section.rows ≡ map (table_row layout columns style) rows
  pub of_totals : seen_totals section.totals ≡ (if layout.no_total then None else Some (with_total layout columns style totals))
