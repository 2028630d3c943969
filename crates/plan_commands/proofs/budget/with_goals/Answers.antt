use Rattle.std.proofs.Common.{◌<◌, ℕ, List, length, sym, subst}
use Rattle.std.proofs.lemmas.Result.{err_from_is_err_and}
use Rattle.hl_base.specs.Gives.{Gives}
use Rattle.hl_time.specs.declared.spans.Span.{Span}
use Rattle.book.specs.Styles.{style_in}
use Rattle.balance_layouts.specs.Totals.{TotalsFit}
use Rattle.balance_rows.specs.declared.layout.Layout.{Layout}
use Rattle.budget_layout.specs.Fits.{CellsFit}
use Rattle.budget_layout.specs.Written.{budget_text, out_of_range}
use Rattle.report_sums.specs.Celled.{cause, celled_of}
use Rattle.report_sums.specs.Matters.{matter_of}
use Rattle.report_commands.specs.Layouts.{layout_of}
use Rattle.report_commands.proofs.Steps.{stop_gives, then_gives, unless_gives}
use Rattle.plan_commands.specs.Goals.{as_budgeted, goal_cells, laid_budget}
use Rattle.plan_commands.proofs.Fitting.{goal_sums_fit, sums_fit}
use Rattle.plan_commands.proofs.budget.with_goals.Goals as goal

pub budget_text-requires-clause-some : goal.budget_text-requires-clause-some
budget_text-requires-clause-some c = subst (λ (columns : List Span). 0 < length columns) (sym c.requires.columns) c.requires.follow.some

pub budget_text-requires-clause-fits : goal.budget_text-requires-clause-fits
budget_text-requires-clause-fits c =
    let options = c.args.job.now.scope.options.now in
    subst (λ (layout : Layout). CellsFit layout (as_budgeted (celled_of c.args.actual))) (sym c.layout_of-layout.ensures)
    (sums_fit options (length c.args.columns) (celled_of c.args.actual) c.requires.fits)

pub budget_text-requires-clause-goals_fit : goal.budget_text-requires-clause-goals_fit
budget_text-requires-clause-goals_fit c =
    let options = c.args.job.now.scope.options.now in
    let cells = celled_of c.in_ok-goals.goals in
    subst (λ (layout : Layout). TotalsFit layout cells.rows cells.totals) (sym c.layout_of-layout.ensures)
    (goal_sums_fit options (length c.args.columns) cells c.in_ok-goals.ensures.fits)

pub returns : goal.returns
returns c =
    let m = matter_of c.args.job.now in
    let style = style_in c.args.job.now.styles.now in
    let actual = celled_of c.args.actual in
    let goals = celled_of c.in_ok-goals.goals in
    let layout = c.layout_of-layout.result in
    let columns = c.args.actual.columns in
    then_gives (λ (text : List ℕ). text) c.budget_text.result (goal_cells m c.args.columns c.args.goals.now.txns) goals
    (laid_budget (layout_of m.asked.options) style c.args.columns actual) c.in_ok-goals.ensures.told
    (subst (λ (layout : Layout). Gives (λ (text : List ℕ). text) cause c.budget_text.result (laid_budget layout style c.args.columns actual goals)) c.layout_of-layout.ensures
    (subst (λ (columns : List Span). Gives (λ (text : List ℕ). text) cause c.budget_text.result (laid_budget layout style columns actual goals)) c.requires.columns
    (unless_gives (λ (text : List ℕ). text) c.budget_text.result (out_of_range layout style (length columns) (as_budgeted actual) (as_budgeted goals))
    (budget_text layout style columns (as_budgeted actual) (as_budgeted goals))
    c.budget_text.ensures.text c.budget_text.ensures.told c.budget_text.ensures.fault)))

pub returns-in_err-goals : goal.returns-in_err-goals
returns-in_err-goals c =
    let m = matter_of c.args.job.now in
    let p = err_from_is_err_and c.from_residual.result c.from_residual.ensures.1 in
    rw (p.1, p.2) (stop_gives c.in_err-goals.field-0.0 (goal_cells m c.args.columns c.args.goals.now.txns)
    (laid_budget (layout_of m.asked.options) m.style c.args.columns (celled_of c.args.actual)) c.in_err-goals.ensures.told)
