use Rattle.std.proofs.Common.{ap}
use Rattle.asked_days.specs.Counts.{count_of}
use Rattle.asked_days.proofs.counts.count_at.Goals as goal

pub returns-in-Some : goal.returns-in-Some
returns-in-Some c = ap count_of c.in-Some.ensures.item

pub returns-in-None : goal.returns-in-None
returns-in-None c = ap count_of c.in-None.ensures.item
