use Rattle.std.proofs.Common.{sym, ◌∙◌}
use Rattle.report_sums.specs.Matters.{matter_of}
use Rattle.report_sums.proofs.Again.{summed_told}
use Rattle.report_sums.proofs.Told.{told_written, written_costs}
use Rattle.report_sums.proofs.summing.sums.Goals as goal

pub written_cells-requires-clause-written : goal.written_cells-requires-clause-written
written_cells-requires-clause-written c =
    written_costs c.way_of-way.result (matter_of c.args.job.now).asked.options (sym c.is_written-written.ensures ∙ c.if-written.true)

pub returns-then-written-clause-told : goal.returns-then-written-clause-told
returns-then-written-clause-told c =
    told_written (matter_of c.args.job.now) c.args.columns c.way_of-way.result c.written_cells.result c.way_of-way.ensures
    (sym c.is_written-written.ensures ∙ c.if-written.true) c.written_cells.ensures.told

pub returns-then-written-clause-fits : goal.returns-then-written-clause-fits
returns-then-written-clause-fits c =
    summed_told (matter_of c.args.job.now) c.args.columns c.written_cells.result c.requires.follow
    (told_written (matter_of c.args.job.now) c.args.columns c.way_of-way.result c.written_cells.result c.way_of-way.ensures
    (sym c.is_written-written.ensures ∙ c.if-written.true) c.written_cells.ensures.told)

pub returns-clause-fits : goal.returns-clause-fits
returns-clause-fits c =
    summed_told (matter_of c.args.job.now) c.args.columns c.taken_cells.result c.requires.follow c.taken_cells.ensures.told
