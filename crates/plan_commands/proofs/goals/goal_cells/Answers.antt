use Rattle.std.proofs.Common.{ap, subst, ◌∙◌, IfOk, length}
use Rattle.hl_base.specs.Gives.{Gives}
use Rattle.hl_time.specs.declared.spans.Span.{Span}
use Rattle.report_options.specs.declared.options.Options.{Options}
use Rattle.report_sums.specs.Celled.{cause, cells_of, celled_of}
use Rattle.report_sums.specs.Matters.{matter_of}
use Rattle.report_sums.specs.Summed.{Summed}
use Rattle.plan_commands.specs.Bounds.{with_bounds}
use Rattle.plan_commands.specs.Columns.{goal_span}
use Rattle.plan_commands.specs.Goals.{bounds_of}
use Rattle.plan_commands.proofs.goals.goal_cells.Goals as goal

pub returns-clause-told : goal.returns-clause-told
returns-clause-told c =
    let m = matter_of c.args.job.now in
    let o = c.args.job.now.scope.options.now in
    let made = c.in_ok-options.ensures
    ∙ ap (λ (s : Span). with_bounds o (bounds_of o s)) (c.goal_span-span.ensures.span ∙ ap goal_span c.as_slice.ensures) in
    subst (λ (p : Options). Gives celled_of cause c.sums_by.result
    (cells_of (record m { asked = record (m.asked) { txns = c.args.goals.now.txns; options = p } }) c.args.columns)) made c.sums_by.ensures.told

pub returns-clause-fits : goal.returns-clause-fits
returns-clause-fits c =
    subst (λ (p : Options). IfOk c.sums_by.result (λ cells. Summed p.start (length c.args.columns) (celled_of cells))) c.in_ok-options.ensures c.sums_by.ensures.fits
