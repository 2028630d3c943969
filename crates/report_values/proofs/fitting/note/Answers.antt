use Rattle.std.proofs.Common.{◌∙◌}
use Rattle.report_values.proofs.Summing.{totals_same}
use Rattle.report_values.proofs.fitting.note.Goals as goal

pub returns-in-None : goal.returns-in-None
returns-in-None c = λ ts t h some. totals_same c.args.totals.now.entries c.args.totals.now.entries ts t h (some ∙ c.in-None.is)
