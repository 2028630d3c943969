use Rattle.report_cells.specs.Bounds.{first_out}
use Rattle.report_sums.specs.Celled.{sums_in}
use Rattle.report_sums.proofs.Told.{refused_plain, told_celled}
use Rattle.report_sums.proofs.summing.plain_cells.Goals as goal

pub returns-clause-told : goal.returns-clause-told
returns-clause-told c =
    told_celled (first_out c.args.takings.now) (sums_in c.args.reach c.args.columns c.args.takings.now) c.make_cells.result
    c.make_cells.ensures.rows c.make_cells.ensures.totals c.make_cells.ensures.within
    (refused_plain c.args.takings.now c.make_cells.result c.make_cells.ensures.fault)
