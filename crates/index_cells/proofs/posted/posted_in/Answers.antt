use Rattle.std.proofs.Common.{arith}
use Rattle.index_cells.proofs.Posting.{posted_more}
use Rattle.index_cells.proofs.posted.posted_in.Goals as goal

pub loop-txn-preserved : goal.loop-txn-preserved
loop-txn-preserved c =
    posted_more c.args.txns.now c.loop-txn.txn-index c.txn-item.result c.loop-txn.takings.items c.push_postings.new.takings.items (omega arith) c.txn-item.is c.loop-txn.invariant c.in_ok-push_postings.ensures
