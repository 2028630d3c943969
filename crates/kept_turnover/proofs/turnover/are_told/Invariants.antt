use Rattle.std.proofs.Common.{◌≡◌, true, take}
use Rattle.kept_turnover.specs.Keeping.{are_told}
use Rattle.kept_turnover.proofs.turnover.are_told.Given as goal

abbrev pub invariant-loop-txn : goal.invariant-loop-txn
invariant-loop-txn l = are_told (take l.txn-index l.txns) ≡ true
