use Rattle.moved_lines.specs.Moving.{moved_txn, CanMoveTxn}
use Rattle.moved_lines.proofs.Lists.{changed-all, changed-can, changed-step}
use Rattle.moved_lines.proofs.txns.move_all.Goals as goal

pub move_txn-requires : goal.move_txn-requires
move_txn-requires c =
    changed-can (moved_txn c.args.by) c.args.txns.now c.loop-txn.txns c.loop-txn.txn-index (CanMoveTxn c.args.by) c.txn-item.result
    c.loop-txn-test.true c.loop-txn.invariant c.requires

pub loop-txn-preserved : goal.loop-txn-preserved
loop-txn-preserved c =
    changed-step (moved_txn c.args.by) c.args.txns.now c.loop-txn.txns c.loop-txn.txn-index c.txn-item.result c.move_txn.new.txn
    c.loop-txn-test.true c.loop-txn.invariant c.move_txn.ensures

pub returns : goal.returns
returns c =
    changed-all (moved_txn c.args.by) c.args.txns.now c.loop-txn.txns c.loop-txn.txn-index c.loop-txn-test.false c.loop-txn.invariant
