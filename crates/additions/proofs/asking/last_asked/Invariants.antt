use Rattle.std.proofs.Common.{◌≡◌, take}
use Rattle.std.specs.List.{fold}
use Rattle.additions.specs.Asked.{asked_through}
use Rattle.additions.proofs.asking.last_asked.Given as goal

abbrev pub invariant-loop-txn : goal.invariant-loop-txn
invariant-loop-txn l = l.last ≡ fold asked_through 0 (take l.txn-index l.txns)
