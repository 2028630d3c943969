use Rattle.written_logs.proofs.laws.timeclock_plain.Goals as goal
use Rattle.written_logs.proofs.Sessions.{timeclock_plain}

pub returns : goal.returns
returns c text txns short is = timeclock_plain text short txns is
