use Rattle.std.proofs.Common.{◌≡◌, take}
use Rattle.report_values.specs.Days.{greatest_txn}
use Rattle.report_values.proofs.days.greatest_txn.Given as goal

abbrev pub invariant-loop-txn : goal.invariant-loop-txn
invariant-loop-txn l = l.greatest ≡ greatest_txn (take l.txn-index l.txns)
