use Rattle.std.proofs.Common.{◌≡◌, List, OnOk, ap, subst, ◌∙◌}
use Rattle.report_cells.specs.Report.{Sums, row_seen}
use Rattle.balance_layouts.specs.Averages.{least_with}
use Rattle.budget_layout.specs.Lined.{goals_in}
use Rattle.budget_layout.specs.Shown.{line_out_on}
use Rattle.budget_layout.proofs.body.push_beside.Goals as goal

pub returns-clause-least : goal.returns-clause-least
returns-clause-least c =
    subst (λ (goals : List Sums). OnOk c.push_row.result (c.push_row.new.least ≡ least_with c.args.least.now (line_out_on c.args.page.now (row_seen c.args.row) goals)))
    (c.of-own.ensures ∙ ap (goals_in c.args.goals.now) c.as_str.ensures) c.push_row.ensures.least
