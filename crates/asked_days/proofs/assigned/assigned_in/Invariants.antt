use Rattle.std.proofs.Common.{◌≡◌, take}
use Rattle.book.specs.Postings.{postings_of}
use Rattle.asked_days.specs.Asked.{assigned_among}
use Rattle.asked_days.proofs.assigned.assigned_in.Given as goal

abbrev pub invariant-loop-txn : goal.invariant-loop-txn
invariant-loop-txn l = l.count ≡ assigned_among (postings_of (take l.txn-index l.txns))
