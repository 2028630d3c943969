use Rattle.std.proofs.Common.{◌≡◌, max, take}
use Rattle.std.specs.List.{fold}
use Rattle.additions.specs.Asked.{asked_on}
use Rattle.additions.proofs.asking.asked_through.Given as goal

abbrev pub invariant-loop-posting : goal.invariant-loop-posting
invariant-loop-posting l = l.latest ≡ fold (λ m p. max m (asked_on l.txn p)) l.fn.last (take l.posting-index l.txn.postings)
