use Rattle.std.proofs.Common.{◌≡◌, map, take}
use Rattle.report_cells.specs.Report.{seen}
use Rattle.statements.specs.Turned.{as_shown}
use Rattle.statements.proofs.turning.copied_cells.Given as goal

abbrev pub invariant-loop-cell : goal.invariant-loop-cell
invariant-loop-cell l = map seen l.copies.items ≡ map (as_shown l.turn) (map seen (take l.cell-index l.cells))
