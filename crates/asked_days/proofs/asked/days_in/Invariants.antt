use Rattle.std.proofs.Common.{take}
use Rattle.std.specs.List.{flat_map}
use Rattle.asked_days.specs.Asked.{IsKept, days_of}
use Rattle.asked_days.proofs.asked.days_in.Given as goal

abbrev pub invariant-loop-txn : goal.invariant-loop-txn
invariant-loop-txn l = IsKept (flat_map days_of (take l.txn-index l.txns)) l.days
