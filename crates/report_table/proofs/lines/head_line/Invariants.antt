use Rattle.std.proofs.Common.{◌≡◌, take}
use Rattle.report_table.proofs.lines.head_line.Given as goal

abbrev pub invariant-loop-head : goal.invariant-loop-head
invariant-loop-head l =
    l.cells.items ≡ take l.head-index l.heads
