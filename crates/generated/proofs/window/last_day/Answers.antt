use Rattle.std.proofs.Common.{ℕ, ◌+◌, Option, Some, drop, ap, ◌∙◌}
use Rattle.book.specs.declared.transaction.Txn.{Txn}
use Rattle.generated.specs.Windows.{last_day_of, later_of}
use Rattle.generated.proofs.Days.{later_more, later_all}
use Rattle.generated.proofs.window.last_day.Goals as goal

pub loop-txn-preserved : goal.loop-txn-preserved
loop-txn-preserved c =
    let txns = c.args.txns.now in
    let at = c.loop-txn.txn-index in
    ap (λ (last : Option ℕ). later_of last (last_day_of (drop (at + 1) txns)))
    (c.later_of-last.ensures ∙ ap (λ (t : Txn). later_of c.loop-txn.last (Some t.day.0)) c.txn-item.is)
    ∙ later_more c.loop-txn.last (last_day_of txns) txns at c.txn-item.result c.loop-txn-test.true c.loop-txn.invariant

pub returns : goal.returns
returns c = later_all c.loop-txn.last (last_day_of c.args.txns.now) c.args.txns.now c.loop-txn.txn-index c.loop-txn-test.false c.loop-txn.invariant
