use Rattle.std.proofs.Common.{◌≡◌, ◌++◌, map, take}
use Rattle.report_cells.specs.Report.{seen}
use Rattle.report_values.specs.Spread.{cells_from}
use Rattle.report_values.proofs.spread.add_cells.Given as goal

abbrev pub invariant-loop-number : goal.invariant-loop-number
invariant-loop-number l = l.takings.items ≡ l.initial.takings.items ++ cells_from l.account 0 (map seen (take l.number l.cells))
