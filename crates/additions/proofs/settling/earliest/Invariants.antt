use Rattle.std.proofs.Common.{◌≡◌, min, take}
use Rattle.std.specs.List.{fold}
use Rattle.balancing.specs.Groups.{day_of}
use Rattle.additions.proofs.settling.earliest.Given as goal

abbrev pub invariant-loop-posting : goal.invariant-loop-posting
invariant-loop-posting l = l.day ≡ fold (λ d p. min d (day_of l.txn p)) l.fn.first (take l.posting-index l.postings)
