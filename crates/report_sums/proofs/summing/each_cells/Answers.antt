use Rattle.report_values.specs.Refusals.{first_refused, values_of}
use Rattle.report_values.specs.ValueDays.{day_by}
use Rattle.report_values.specs.Worth.{priced_of}
use Rattle.report_values.specs.declared.dates.Dates.TheVariants as dates
use Rattle.report_sums.specs.Celled.{sums_in}
use Rattle.report_sums.proofs.Told.{told_celled}
use Rattle.report_sums.proofs.summing.each_cells.Goals as goal

pub returns-clause-told : goal.returns-clause-told
returns-clause-told c =
    let market = priced_of c.args.market.now in
    told_celled (first_refused market (day_by dates.Own) c.args.takings.now)
    (sums_in c.args.reach c.args.columns (values_of market (day_by dates.Own) c.args.takings.now)) c.cells_then.result
    c.cells_then.ensures.rows c.cells_then.ensures.totals c.cells_then.ensures.within c.cells_then.ensures.fault
