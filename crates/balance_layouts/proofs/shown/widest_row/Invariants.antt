use Rattle.std.proofs.Common.{◌≡◌, drop}
use Rattle.std.specs.List.{flat_map}
use Rattle.report_table.specs.Cells.{widest}
use Rattle.balance_layouts.proofs.shown.widest_row.Given as goal

abbrev pub invariant-loop-row : goal.invariant-loop-row
invariant-loop-row l =
    widest l.columns (flat_map (λ row. row.1) (drop l.row-index l.rows)) ≡ widest l.fn.least (flat_map (λ row. row.1) l.rows)
