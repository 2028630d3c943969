use Rattle.std.proofs.Common.{◌≡◌, take}
use Rattle.std.specs.List.{flat_map}
use Rattle.placed_sums.specs.Rows.{rows_of_txn}
use Rattle.placed_sums.proofs.rows.rows_of.Given as goal

abbrev pub invariant-loop-txn : goal.invariant-loop-txn
invariant-loop-txn l = l.rows.items ≡ flat_map rows_of_txn (take l.txn-index l.txns)
