use Rattle.std.proofs.Common.{◌≡◌, ◌++◌, map}
use Rattle.report_cells.specs.Report.{row_seen}
use Rattle.balance_layouts.specs.Averages.{least_with}
use Rattle.budget_layout.specs.Lined.{goals_in, lines_by, outs_by}
use Rattle.budget_layout.specs.OnPage.{layout_on, style_on}
use Rattle.budget_layout.proofs.body.push_rows.Given as goal

abbrev pub invariant-loop-row : goal.invariant-loop-row
invariant-loop-row l = record {
  lines : l.lines.items ≡ l.initial.lines.items
      ++ lines_by (layout_on l.page) l.page.columns (style_on l.page) (goals_in l.goals) (map row_seen l.yielded);
  least : l.least ≡ least_with l.initial.least
      (outs_by (layout_on l.page) l.page.columns (style_on l.page) (goals_in l.goals) (map row_seen l.yielded));
}
