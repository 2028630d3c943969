use Rattle.std.proofs.Common.{◌<◌, ◌≤◌, List, length, ap, ◌∙◌, arith, rules}
use Rattle.std.proofs.lemmas.List.{take_all}
use Rattle.book.specs.Postings.{postings_of}
use Rattle.book.specs.declared.transaction.Txn.{Txn}
use Rattle.asked_days.specs.Asked.{assigned_among}
use Rattle.asked_days.proofs.Assigning.{txn-further}
use Rattle.asked_days.proofs.assigned.assigned_in.Goals as goal

pub loop-txn-preserved : goal.loop-txn-preserved
loop-txn-preserved c =
    let inside : c.loop-txn.txn-index < length c.args.txns.now = search rules in
    txn-further c.args.txns.now c.loop-txn.txn-index c.txn-item.result c.loop-txn.count c.in_ok-count.count inside c.txn-item.is c.loop-txn.invariant c.in_ok-count.ensures

pub returns : goal.returns
returns c =
    let past : length c.args.txns.now ≤ c.loop-txn.txn-index = omega arith in
    c.loop-txn.invariant ∙ ap (λ (ts : List Txn). assigned_among (postings_of ts)) (take_all c.loop-txn.txn-index c.args.txns.now past)
