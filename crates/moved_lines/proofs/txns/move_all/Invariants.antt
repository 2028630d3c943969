use Rattle.std.proofs.Common.{◌≡◌, ◌++◌, map, take, drop}
use Rattle.moved_lines.specs.Moving.{moved_txn}
use Rattle.moved_lines.proofs.txns.move_all.Given as goal

abbrev pub invariant-loop-txn : goal.invariant-loop-txn
invariant-loop-txn l = l.txns ≡ map (moved_txn l.by) (take l.txn-index l.fn.txns) ++ drop l.txn-index l.fn.txns
