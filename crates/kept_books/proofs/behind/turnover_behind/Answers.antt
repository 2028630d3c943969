use Rattle.std.proofs.Common.{arith}
use Rattle.entry_balance.proofs.Adding.{list_all-at}
use Rattle.book.specs.declared.transaction.Txn.{Txn}
use Rattle.entry_balance.specs.Entry.{costs_fit}
use Rattle.kept_books.proofs.Adding.{moves_all, moves_none, moves_step}
use Rattle.kept_books.proofs.behind.turnover_behind.Goals as goal

pub loop-txn-init : goal.loop-txn-init
loop-txn-init c = moves_none c.args.turnover.now c.in_ok-more.more c.args.txns.now c.in_ok-more.ensures

pub add-requires : goal.add-requires
add-requires c = list_all-at (λ (t : Txn). costs_fit t.postings) c.args.txns.now c.loop-txn.txn-index c.txn-item.result (omega arith) c.txn-item.is c.requires

pub loop-txn-preserved : goal.loop-txn-preserved
loop-txn-preserved c =
    moves_step c.args.turnover.now c.loop-txn.more c.add.new.self c.args.txns.now c.loop-txn.txn-index c.txn-item.result c.loop-txn-test.true c.txn-item.is c.loop-txn.invariant c.in_ok-add.ensures

pub returns : goal.returns
returns c = moves_all c.args.turnover.now c.loop-txn.more c.args.txns.now c.loop-txn.txn-index c.loop-txn-test.false c.loop-txn.invariant
