use Rattle.desk.specs.Imports.{entry_text}
use Rattle.desk.proofs.Texts.{one_further, all_further}
use Rattle.desk.proofs.importing.push_further.Goals as goal

pub loop-txn-preserved : goal.loop-txn-preserved
loop-txn-preserved c =
    one_further (entry_text c.args.context.now) c.args.txns.now c.loop-txn.txn-index c.txn-item.result c.args.bytes.now.items c.loop-txn.bytes.items c.push.new.self.items c.push_entry.new.bytes.items
    c.loop-txn-test.true c.txn-item.is c.loop-txn.invariant c.in_ok-push.ensures.items c.in_ok-push_entry.ensures

pub returns : goal.returns
returns c =
    all_further (entry_text c.args.context.now) c.args.txns.now c.loop-txn.txn-index c.args.bytes.now.items c.loop-txn.bytes.items c.loop-txn-test.false c.loop-txn.invariant
