use Rattle.written_logs.proofs.laws.timedot_plain.Goals as goal
use Rattle.written_logs.proofs.Dots.{timedot_plain}

pub returns : goal.returns
returns c text txns short is = timedot_plain text short txns is
