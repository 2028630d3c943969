use Rattle.std.proofs.Common.{◌≡◌, filter, map}
use Rattle.report_cells.specs.Report.{row_seen}
use Rattle.balance_rows.specs.Rows.{is_shown}
use Rattle.balance_rows.proofs.rows.shown_rows.Given as goal

abbrev pub invariant-loop-row : goal.invariant-loop-row
invariant-loop-row l = map row_seen l.shown.items ≡ filter is_shown (map row_seen l.yielded)
