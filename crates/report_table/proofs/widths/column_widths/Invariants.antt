use Rattle.std.proofs.Common.{◌≡◌}
use Rattle.report_table.specs.Tables.{column_widths}
use Rattle.report_table.proofs.widths.column_widths.Given as goal

abbrev pub invariant-loop-at : goal.invariant-loop-at
invariant-loop-at l =
    l.widths.items ≡ column_widths l.at l.lines
