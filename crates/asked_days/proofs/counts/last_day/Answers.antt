use Rattle.std.proofs.Common.{ap}
use Rattle.asked_days.specs.Counts.{day_if}
use Rattle.asked_days.proofs.counts.last_day.Goals as goal

pub returns-in-Some-clause-day : goal.returns-in-Some-clause-day
returns-in-Some-clause-day c = ap day_if c.in-Some.ensures.item

pub returns-in-None-clause-day : goal.returns-in-None-clause-day
returns-in-None-clause-day c = ap day_if c.in-None.ensures.item
