use Rattle.std.proofs.Common.{◌≡◌, ℕ, List, Result, Err, sym, ap, subst}
use Rattle.std.specs.Prelude.{IfSome}
use Rattle.report_cells.specs.declared.fault.ReportFault.{ReportFault}
use Rattle.report_sums.specs.Matters.{matter_of}
use Rattle.plan_commands.specs.Faults.{plan_cause}
use Rattle.plan_commands.specs.Goals.{budget_of}
use Rattle.plan_commands.specs.Reports.{as_report}
use Rattle.plan_commands.specs.declared.fault.PlanFault.{PlanFault}
use Rattle.plan_commands.proofs.Stages.{refused_budget}
use Rattle.plan_commands.proofs.budget.beside.Goals as goal

pub returns-in-Ok : goal.returns-in-Ok
returns-in-Ok c = ap (λ (made : Result (List ℕ) ReportFault). as_report made) c.in-Ok.ensures

pub returns-in-Err : goal.returns-in-Err
returns-in-Err c =
    let made = budget_of (matter_of c.args.job.now) c.args.columns c.args.goals.now.txns in
    subst (λ (e : PlanFault). IfSome (plan_cause e) (λ f. as_report made ≡ Err f)) (sym c.from.ensures)
    (refused_budget c.in-Err.fault made c.in-Err.ensures)
