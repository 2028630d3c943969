use Rattle.std.proofs.Common.{◌≡◌, ◌++◌, true, map, take}
use Rattle.std.specs.List.{flat_map}
use Rattle.report_cells.specs.Report.{seen}
use Rattle.book_care.specs.Kept.{sum_lines}
use Rattle.book_care.proofs.lines.add_row.Given as goal

abbrev pub invariant-loop-cell : goal.invariant-loop-cell
invariant-loop-cell l = l.lines.items ≡ l.initial.lines.items ++ flat_map (sum_lines true l.row.account) (map seen (take l.cell-index l.cell-items))
