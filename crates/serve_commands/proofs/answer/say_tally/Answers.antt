use Rattle.serve_commands.proofs.ShortLines.{is_short}
use Rattle.serve_commands.proofs.answer.say_tally.Goals as goal

pub returns-in-Ok-clause-short : goal.returns-in-Ok-clause-short
returns-in-Ok-clause-short c = is_short c.args.tally.now c.in-Ok.line c.in-Ok.ensures.line c.in-Ok.ensures.small
