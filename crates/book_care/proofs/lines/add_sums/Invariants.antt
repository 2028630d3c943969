use Rattle.std.proofs.Common.{◌≡◌, ◌++◌, take}
use Rattle.report_cells.specs.Report.{seen}
use Rattle.book_care.specs.Kept.{sum_lines}
use Rattle.book_care.proofs.lines.add_sums.Given as goal

abbrev pub invariant-loop-symbol : goal.invariant-loop-symbol
invariant-loop-symbol l = l.lines.items ≡ l.initial.lines.items ++ sum_lines l.turns l.account (seen (take l.symbol-index l.symbol-items))
