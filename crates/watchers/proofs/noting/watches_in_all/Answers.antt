use Rattle.std.proofs.Common.{◌≡◌, ◌+◌, ◌<◌, [], length, drop, rules}
use Rattle.watchers.specs.Walk.{put_all, watches_from}
use Rattle.watchers.specs.Watches.{numbered_from, watches_of}
use Rattle.watchers.proofs.Walking.{txn-more}
use Rattle.watchers.proofs.noting.watches_in_all.Goals as goal

pub loop-number-preserved : goal.loop-number-preserved
loop-number-preserved c =
    let inside : c.loop-number.number < length c.args.txns.now = search rules in
    let put : c.put_txn.new.watches ≡ put_all c.loop-number.watches (watches_from c.index-txns-number.result c.loop-number.number 0 c.index-txns-number.result.postings) = search rules in
    txn-more c.args.txns.now c.loop-number.number c.index-txns-number.result
    (put_all [] (watches_of (numbered_from 0 c.args.txns.now)))
    c.loop-number.watches c.put_txn.new.watches inside c.index-txns-number.is put c.loop-number.invariant
