use Rattle.std.proofs.Common.{◌≡◌, map, take}
use Rattle.report_cells.specs.Report.{row_seen}
use Rattle.balance_rows.specs.Trees.{column_sums}
use Rattle.budget_layout.specs.Grouped.{rows_at}
use Rattle.budget_layout.specs.Placed.{place_in}
use Rattle.budget_layout.proofs.rows.goal_rows.Given as goal

abbrev pub invariant-loop-goal : goal.invariant-loop-goal
invariant-loop-goal l =
    map row_seen l.rows.items
    ≡ map (λ row. (row.account, column_sums l.columns (map row_seen (rows_at (place_in l.places row.account) l.groups)))) (take l.goal-index l.goals)
