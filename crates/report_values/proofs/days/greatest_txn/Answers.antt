use Rattle.std.proofs.Common.{◌≡◌, ◌<◌, length, take, Some, sym, ap, ◌∙◌, arith}
use Rattle.prices.proofs.Both.{take_more}
use Rattle.report_values.specs.Days.{later, greatest_txn}
use Rattle.report_values.proofs.Greatest.{greatest-push}
use Rattle.report_values.proofs.days.greatest_txn.Goals as goal

pub loop-txn-preserved : goal.loop-txn-preserved
loop-txn-preserved c =
    let within : c.loop-txn.txn-index < length c.args.txns.now = omega arith in
    c.later-greatest.ensures
    ∙ ap (λ o. later o (Some c.txn-item.result.day.0)) c.loop-txn.invariant
    ∙ sym (ap greatest_txn (take_more c.args.txns.now c.loop-txn.txn-index c.txn-item.result within c.txn-item.is) ∙ greatest-push (take c.loop-txn.txn-index c.args.txns.now) c.txn-item.result)
