use Rattle.written_logs.proofs.laws.hours_load.Goals as goal
use Rattle.balancing.proofs.Solving.{solves_loads}
use Rattle.written_logs.proofs.Dots.{timedot_plain}
use Rattle.written_logs.proofs.Sessions.{timeclock_plain}
use Rattle.written_logs.proofs.Whole.{plain_loads}

pub returns-clause-timeclock : goal.returns-clause-timeclock
returns-clause-timeclock c shape detail year text txns size is own short =
    plain_loads shape detail year txns solves_loads own (timeclock_plain text size txns is) short

pub returns-clause-timedot : goal.returns-clause-timedot
returns-clause-timedot c shape detail year text txns size is own short =
    plain_loads shape detail year txns solves_loads own (timedot_plain text size txns is) short
