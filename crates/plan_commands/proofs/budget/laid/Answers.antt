use Rattle.std.proofs.Common.{ℕ, List}
use Rattle.std.proofs.lemmas.Result.{err_from_is_err_and}
use Rattle.report_sums.specs.Matters.{matter_of}
use Rattle.report_commands.specs.Answered.{few}
use Rattle.report_commands.proofs.Steps.{stop_gives, then_gives}
use Rattle.plan_commands.specs.Goals.{summed_budget}
use Rattle.plan_commands.proofs.budget.laid.Goals as goal

pub returns : goal.returns
returns c =
    then_gives (λ (text : List ℕ). text) c.summed.result (few c.args.columns) c.in_ok-columns.columns
    (summed_budget (matter_of c.args.job.now) c.args.goals.now.txns) c.in_ok-columns.ensures.told c.summed.ensures

pub returns-in_err-columns : goal.returns-in_err-columns
returns-in_err-columns c =
    let p = err_from_is_err_and c.from_residual.result c.from_residual.ensures.1 in
    rw (p.1, p.2) (stop_gives c.in_err-columns.field-0.0 (few c.args.columns)
    (summed_budget (matter_of c.args.job.now) c.args.goals.now.txns) c.in_err-columns.ensures.told)
