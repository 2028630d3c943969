use Rattle.std.proofs.Common.{ℕ, List, subst, ◌∙◌}
use Rattle.std.proofs.lemmas.Result.{err_from_is_err_and}
use Rattle.hl_base.specs.Gives.{Gives}
use Rattle.hl_time.specs.declared.spans.Span.{Span}
use Rattle.report_sums.specs.Celled.{cause, celled_of, cells_of}
use Rattle.report_sums.specs.Matters.{matter_of}
use Rattle.report_commands.proofs.Steps.{stop_gives, then_gives}
use Rattle.plan_commands.specs.Goals.{beside_goals}
use Rattle.plan_commands.proofs.budget.summed.Goals as goal

pub returns : goal.returns
returns c =
    let m = matter_of c.args.job.now in
    let goals = c.args.goals.now.txns in
    let copy = c.in_ok-copy.ensures ∙ c.as_slice.ensures in
    then_gives (λ (text : List ℕ). text) c.with_goals.result (cells_of m c.args.columns) (celled_of c.in_ok-actual.actual)
    (beside_goals m c.args.columns goals) c.in_ok-actual.ensures.told
    (subst (λ (columns : List Span). Gives (λ (text : List ℕ). text) cause c.with_goals.result (beside_goals m columns goals (celled_of c.in_ok-actual.actual))) copy c.with_goals.ensures)

pub returns-in_err-actual : goal.returns-in_err-actual
returns-in_err-actual c =
    let m = matter_of c.args.job.now in
    let p = err_from_is_err_and c.from_residual-in_err-actual.result c.from_residual-in_err-actual.ensures.1 in
    rw (p.1, p.2) (stop_gives c.in_err-actual.field-0.0 (cells_of m c.args.columns) (beside_goals m c.args.columns c.args.goals.now.txns) c.in_err-actual.ensures.told)
