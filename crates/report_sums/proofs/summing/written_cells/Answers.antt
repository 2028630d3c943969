use Rattle.std.proofs.Common.{subst}
use Rattle.hl_base.specs.Gives.{Gives}
use Rattle.report_cells.specs.Bounds.{first_out}
use Rattle.report_cells.specs.declared.reach.Reach.{Reach}
use Rattle.report_cells.proofs.Finishing.{made_columns, made_rows, made_totals, made_within, made_fault}
use Rattle.report_takings.specs.Takings.{takings_of}
use Rattle.report_sums.specs.Celled.{cause, celled_of, plain_cells, sums_in}
use Rattle.report_sums.specs.Matters.{matter_of}
use Rattle.report_sums.proofs.Told.{refused_plain, told_celled}
use Rattle.report_sums.proofs.summing.written_cells.Goals as goal

pub returns-clause-columns : goal.returns-clause-columns
returns-clause-columns c =
    made_columns c.args.columns c.reach_of-reach.result (takings_of (matter_of c.args.job.now).asked c.args.columns) c.gather.result c.gather.ensures

pub returns-clause-told : goal.returns-clause-told
returns-clause-told c =
    let ts = takings_of (matter_of c.args.job.now).asked c.args.columns in
    let columns = c.args.columns in
    let reach = c.reach_of-reach.result in
    let r = c.gather.result in
    let made = c.gather.ensures in
    subst (λ (reach : Reach). Gives celled_of cause c.gather.result (plain_cells reach c.args.columns ts)) c.reach_of-reach.ensures
    (told_celled (first_out ts) (sums_in reach columns ts) r (made_rows columns reach ts r made) (made_totals columns reach ts r made)
    (made_within columns reach ts r made) (refused_plain ts r (made_fault columns reach ts r made)))
