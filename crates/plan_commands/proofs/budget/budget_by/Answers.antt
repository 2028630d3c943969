use Rattle.std.proofs.Common.{◌≡◌, ℕ, List, Result, Ok, Err, sym, ap, subst, ◌∙◌}
use Rattle.std.specs.Prelude.{IfSome}
use Rattle.hl_base.specs.Gives.{Gives}
use Rattle.hl_time.specs.declared.spans.Span.{Span}
use Rattle.book.specs.declared.item.Book.{Book}
use Rattle.generated.specs.Periodic.{goals_of}
use Rattle.generated.specs.Refusals.{cause_of}
use Rattle.generated.specs.declared.fault.GenFault.{GenFault}
use Rattle.report_sums.specs.Matters.{matter_of}
use Rattle.plan_commands.specs.Columns.{goal_span}
use Rattle.plan_commands.specs.Faults.{plan_cause}
use Rattle.plan_commands.specs.Reports.{beside, budget_by}
use Rattle.plan_commands.specs.declared.fault.PlanFault.{PlanFault}
use Rattle.plan_commands.proofs.Stages.{goals_stop}
use Rattle.plan_commands.proofs.budget.budget_by.Goals as goal

pub returns-in-Ok : goal.returns-in-Ok
returns-in-Ok c =
    let m = matter_of c.args.job.now in
    let span = c.goal_span-span.ensures.span ∙ ap goal_span c.as_slice.ensures in
    let made : goals_of c.args.items.now (goal_span c.args.columns) ≡ Ok c.in-Ok.goals =
    ap (λ (s : Span). goals_of c.args.items.now s) (sym span) ∙ c.in-Ok.ensures in
    subst (λ (r : Result Book GenFault). Gives (λ (text : List ℕ). text) plan_cause c.beside.result (beside m c.args.columns r)) (sym made) c.beside.ensures

pub returns-in-Err : goal.returns-in-Err
returns-in-Err c =
    let m = matter_of c.args.job.now in
    let span = c.goal_span-span.ensures.span ∙ ap goal_span c.as_slice.ensures in
    subst (λ (e : PlanFault). IfSome (plan_cause e) (λ f. budget_by c.args.items.now m c.args.columns ≡ Err f)) (sym c.from.ensures)
    (goals_stop m c.args.columns (goals_of c.args.items.now (goal_span c.args.columns)) c.in-Err.fault
    (subst (λ (s : Span). IfSome (cause_of c.in-Err.fault) (λ f. goals_of c.args.items.now s ≡ Err f)) span c.in-Err.ensures))
