use Rattle.std.proofs.Common.{ℕ, List, map, ap, ◌∙◌, arith}
use Rattle.report_cells.specs.Report.{row_seen}
use Rattle.report_cells.specs.declared.cells.CellRow.{CellRow}
use Rattle.balance_rows.specs.Rows.{Row}
use Rattle.balance_rows.specs.Trees.{column_sums}
use Rattle.budget_layout.specs.Grouped.{rows_at}
use Rattle.budget_layout.specs.Placed.{place_in}
use Rattle.budget_layout.proofs.Alike.{row_more}
use Rattle.budget_layout.proofs.rows.goal_rows.Goals as goal

pub loop-goal-preserved : goal.loop-goal-preserved
loop-goal-preserved c =
    let row : List ℕ → Row = λ name. (name, column_sums c.args.columns (map row_seen (rows_at (place_in c.args.places.now name) c.args.groups.now))) in
    row_more (λ (goal : CellRow). row goal.account) c.args.goals.now c.loop-goal.rows.items c.push.new.self.items c.loop-goal.goal-index c.goal-item.result
    c.in_ok-goal_row.field-0 (omega arith) c.goal-item.is c.loop-goal.invariant (c.in_ok-goal_row.ensures ∙ ap row c.as_str.ensures) c.in_ok-push.ensures.items
