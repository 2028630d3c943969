use Rattle.std.proofs.Common.{◌≡◌, drop}
use Rattle.std.specs.List.{flat_map}
use Rattle.report_table.specs.Cells.{widest}
use Rattle.report_table.specs.Tables.{name_width, names_in}
use Rattle.report_table.proofs.widths.name_width.Given as goal

abbrev pub invariant-loop-line : goal.invariant-loop-line
invariant-loop-line l =
    widest l.width (flat_map names_in (drop l.line-index l.lines)) ≡ name_width l.lines
