use Rattle.std.proofs.Common.{◌≡◌, ◌++◌, map, take}
use Rattle.report_cells.specs.Report.{seen}
use Rattle.report_values.specs.Spread.{summed}
use Rattle.report_values.proofs.spread.add_cell.Given as goal

abbrev pub invariant-loop-symbol : goal.invariant-loop-symbol
invariant-loop-symbol l = l.takings.items ≡ l.initial.takings.items ++ map (summed l.account l.number) (seen (take l.symbol-index l.symbol-items))
