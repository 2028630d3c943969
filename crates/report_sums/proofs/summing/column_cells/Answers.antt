use Rattle.std.proofs.Common.{◌≡◌, map, ap, subst, ◌∙◌}
use Rattle.hl_base.specs.Gives.{Gives}
use Rattle.report_values.specs.Cells.{Planned}
use Rattle.report_values.specs.Days.{Dated, day_of}
use Rattle.report_sums.specs.Celled.{cause, celled_of, column_cells}
use Rattle.report_sums.specs.Matters.{dated_in, matter_of}
use Rattle.report_sums.proofs.summing.column_cells.Goals as goal

pub returns-clause-told : goal.returns-clause-told
returns-clause-told c =
    let columns = c.args.columns.now in
    let days : c.deref.result.now ≡ map (day_of (dated_in (matter_of c.args.job.now)) c.args.when) columns =
    c.deref.ensures.value ∙ c.in_ok-days.ensures ∙ ap (λ (d : Dated). map (day_of d c.args.when) columns) c.asked_of.ensures in
    subst (λ (plan : Planned). Gives celled_of cause c.planned_cells.result (column_cells plan c.args.takings.now))
    (λ i. record { columns = columns; reach = c.reach_of.ensures i; days = days i; market = c.market_of-market.ensures i })
    c.planned_cells.ensures.told
