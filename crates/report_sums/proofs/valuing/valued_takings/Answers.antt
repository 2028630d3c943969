use Rattle.std.proofs.Common.{ap, ◌∙◌}
use Rattle.report_values.specs.Days.{Dated, day_of}
use Rattle.report_sums.specs.Matters.{matter_of}
use Rattle.report_sums.proofs.Told.{told_worth}
use Rattle.report_sums.proofs.valuing.valued_takings.Goals as goal

pub returns : goal.returns
returns c =
    told_worth (λ values. values.items) (matter_of c.args.job.now) c.args.span c.args.takings.items c.deref-in-Columns.result.now
    c.in-Columns.when c.day_of-day.result c.worth_on-in-Columns.result
    c.in-Columns.ensures
    (c.day_of-day.ensures ∙ ap (λ (d : Dated). day_of d c.in-Columns.when c.args.span) c.asked_of.ensures)
    c.deref-in-Columns.ensures.value
    c.worth_on-in-Columns.ensures
