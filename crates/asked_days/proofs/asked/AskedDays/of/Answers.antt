use Rattle.asked_days.proofs.asked.AskedDays.of.Goals as goal

pub returns : goal.returns
returns c = record { days = c.in_ok-days.ensures; assigned = c.in_ok-assigned.ensures }
