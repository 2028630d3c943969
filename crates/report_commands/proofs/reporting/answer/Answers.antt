use Rattle.std.proofs.Common.{refl}
use Rattle.report_commands.proofs.reporting.answer.Goals as goal

pub returns : goal.returns
returns c = λ items is.
    c.answer_job.ensures items (record { options = refl; query = c.requires.query; letters = is.letters; styles = is.styles; quotes = is.quotes })
