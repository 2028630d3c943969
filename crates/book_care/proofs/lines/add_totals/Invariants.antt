use Rattle.std.proofs.Common.{◌≡◌, ◌++◌, false, map, take}
use Rattle.std.specs.List.{flat_map}
use Rattle.report_cells.specs.Report.{seen}
use Rattle.book_care.specs.Kept.{sum_lines}
use Rattle.book_care.proofs.lines.add_totals.Given as goal

abbrev pub invariant-loop-total : goal.invariant-loop-total
invariant-loop-total l = l.lines.items ≡ l.initial.lines.items ++ flat_map (sum_lines false l.into) (map seen (take l.total-index l.totals))
