use Rattle.report_values.specs.Cells.{first_on, planned_of, rows_on, totals_on}
use Rattle.report_sums.proofs.Told.{told_celled}
use Rattle.report_sums.proofs.summing.planned_cells.Goals as goal

pub returns-clause-told : goal.returns-clause-told
returns-clause-told c =
    let plan = planned_of c.args.plan.now in
    let ts = c.args.takings.now in
    told_celled (first_on plan ts) (record { rows = rows_on plan ts; totals = totals_on plan ts }) c.cells_on.result
    c.cells_on.ensures.rows c.cells_on.ensures.totals c.cells_on.ensures.within c.cells_on.ensures.fault
