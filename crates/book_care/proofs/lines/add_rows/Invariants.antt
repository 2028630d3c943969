use Rattle.std.proofs.Common.{◌≡◌, ◌++◌, map, take}
use Rattle.std.specs.List.{flat_map}
use Rattle.report_cells.specs.Report.{row_seen}
use Rattle.book_care.specs.Kept.{row_lines}
use Rattle.book_care.proofs.lines.add_rows.Given as goal

abbrev pub invariant-loop-row : goal.invariant-loop-row
invariant-loop-row l = l.lines.items ≡ l.initial.lines.items ++ flat_map row_lines (map row_seen (take l.row-index l.rows))
