use Rattle.std.proofs.Common.{◌≡◌, ◌<◌, ◌≤◌, List, length, subst, arith, rules}
use Rattle.std.specs.List.{flat_map, fold}
use Rattle.std.proofs.lemmas.List.{take_all}
use Rattle.book.specs.declared.transaction.Txn.{Txn}
use Rattle.asked_days.specs.Asked.{IsKept, days_of}
use Rattle.asked_days.specs.Counts.{counted}
use Rattle.asked_days.proofs.Keeping.{kept-further, kept-none}
use Rattle.asked_days.proofs.asked.days_in.Goals as goal

pub loop-txn-init : goal.loop-txn-init
loop-txn-init c = kept-none _ c.new-days.ensures

pub loop-txn-preserved : goal.loop-txn-preserved
loop-txn-preserved c =
    let inside : c.loop-txn.txn-index < length c.args.txns.now = search rules in
    let noted : c.count_txn.new.days ≡ fold counted c.loop-txn.days (days_of c.txn-item.result) = search rules in
    kept-further c.args.txns.now c.loop-txn.txn-index c.txn-item.result c.loop-txn.days c.count_txn.new.days inside c.txn-item.is c.loop-txn.invariant noted

pub returns : goal.returns
returns c =
    let past : length c.args.txns.now ≤ c.loop-txn.txn-index = omega arith in
    subst (λ (l : List Txn). IsKept (flat_map days_of l) c.loop-txn.days) (take_all c.loop-txn.txn-index c.args.txns.now past) c.loop-txn.invariant
