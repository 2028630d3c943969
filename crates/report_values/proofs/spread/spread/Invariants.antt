use Rattle.std.proofs.Common.{◌≡◌, map, take}
use Rattle.report_cells.specs.Report.{row_seen}
use Rattle.report_values.specs.Spread.{spread}
use Rattle.report_values.proofs.spread.spread.Given as goal

abbrev pub invariant-loop-row : goal.invariant-loop-row
invariant-loop-row l = l.takings.items ≡ spread (map row_seen (take l.row-index l.rows))
