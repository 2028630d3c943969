use Rattle.book.specs.Postings.{postings_of}
use Rattle.placed_sums.proofs.Adding.{none_in}
use Rattle.live_cells.proofs.Parts.{can_add_txn, one_fits, txn_added, txns_done}
use Rattle.live_cells.proofs.over_book.sum_over.Goals as goal

pub loop-txn-init : goal.loop-txn-init
loop-txn-init c = none_in (postings_of c.args.book.now) c.args.symbol.now c.zero-sum.result c.zero-sum.ensures

pub txn_sum-part-requires : goal.txn_sum-part-requires
txn_sum-part-requires c = one_fits c.args.book.now c.loop-txn.txn-index c.txn-item.result c.loop-txn-test.true c.txn-item.is c.requires

pub sum_of-sum-requires : goal.sum_of-sum-requires
sum_of-sum-requires c =
    can_add_txn c.args.account.now c.args.symbol.now c.args.below c.args.end.0 c.args.book.now c.loop-txn.txn-index c.txn-item.result c.loop-txn.sum c.txn_sum-part.result c.loop-txn-test.true c.txn-item.is
    c.requires c.loop-txn.invariant c.txn_sum-part.ensures

pub loop-txn-preserved : goal.loop-txn-preserved
loop-txn-preserved c =
    txn_added c.args.account.now c.args.symbol.now c.args.below c.args.end.0 c.args.book.now c.loop-txn.txn-index c.txn-item.result c.loop-txn.sum c.txn_sum-part.result c.sum_of-sum.result c.loop-txn-test.true c.txn-item.is
    c.loop-txn.invariant c.txn_sum-part.ensures c.sum_of-sum.ensures.value c.sum_of-sum.ensures.places

pub returns : goal.returns
returns c = txns_done c.args.account.now c.args.symbol.now c.args.below c.args.end.0 c.args.book.now c.loop-txn.txn-index c.loop-txn.sum c.loop-txn-test.false c.loop-txn.invariant
