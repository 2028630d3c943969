use Rattle.std.proofs.Common.{◌≡◌, map, take}
use Rattle.query.specs.OwnLetters.{own_in}
use Rattle.report_cells.specs.Report.{row_seen}
use Rattle.statements.specs.Chosen.{part_rows}
use Rattle.statements.proofs.choosing.part_rows.Given as goal

abbrev pub invariant-loop-row : goal.invariant-loop-row
invariant-loop-row l = map row_seen l.own.items ≡ part_rows (own_in l.types) l.part (map row_seen (take l.row-index l.rows))
