-- What sections and lines say, each amount told exactly.
use Rattle.std.specs.Prelude.{ℕ, List, map, codes, Option, Some, None}
use Rattle.report_cells.specs.Report.{Sums, seen}
use Rattle.report_table.specs.Cells.{Cell}
use Rattle.report_table.specs.declared.table.Section.{Section}
use Rattle.balance_layouts.specs.TableRows.{named_seen, seen_totals}
use Rattle.balance_layouts.specs.Tables.{exact_cell, exact_row}

abbrev pub exact_totals : Option (List Sums) → Option (List Cell)
exact_totals None = None
exact_totals (Some cells) = Some (map exact_cell cells)

-- a section
abbrev pub exactly : Section → Section
exactly section = record {
  name = section.name;
  rows = map exact_row (map named_seen section.rows);
  totals = exact_totals (seen_totals section.totals);
}

-- a last line
abbrev pub exact_last : Option (List ℕ × List Cell) → Option (List ℕ × List Cell)
exact_last None = None
exact_last (Some row) = Some (exact_row (named_seen row))

-- cells behind the name of the last line
abbrev pub net_named : Option (List Cell) → Option (List ℕ × List Cell)
net_named None = None
net_named (Some cells) = Some (codes "Net:", cells)
