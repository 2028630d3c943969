use Rattle.std.proofs.Common.{ℕ, List, subst}
use Rattle.hl_base.specs.Gives.{Gives}
use Rattle.hl_time.specs.declared.spans.Span.{Span}
use Rattle.report_sums.specs.Matters.{matter_of}
use Rattle.plan_commands.specs.Faults.{plan_cause}
use Rattle.plan_commands.specs.Reports.{budget_by}
use Rattle.plan_commands.proofs.budget.budget.Goals as goal

pub returns-in-Ok : goal.returns-in-Ok
returns-in-Ok c =
    subst (λ (columns : List Span). Gives (λ (text : List ℕ). text) plan_cause c.budget_by.result (budget_by c.args.items.now (matter_of c.args.job.now) columns))
    c.in-Ok.ensures.columns c.budget_by.ensures
