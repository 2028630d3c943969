use Rattle.std.proofs.Common.{◌≡◌, [], replicate}
use Rattle.report_table.proofs.lines.empty_cells.Given as goal

abbrev pub invariant-loop-made : goal.invariant-loop-made
invariant-loop-made l =
    l.cells.items ≡ replicate l._made []
