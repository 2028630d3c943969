use Rattle.std.proofs.Common.{◌≡◌, take}
use Rattle.asked_days.specs.Asked.{assigned_among}
use Rattle.asked_days.proofs.assigned.among.Given as goal

abbrev pub invariant-loop-posting : goal.invariant-loop-posting
invariant-loop-posting l = l.count ≡ assigned_among (take l.posting-index l.postings)
