use Rattle.std.proofs.Common.{sym, ap, ◌∙◌}
use Rattle.std.specs.List.{list_all}
use Rattle.book.specs.declared.transaction.Txn.{Txn}
use Rattle.assertions.specs.Kept.{is_asked}
use Rattle.assertions.proofs.Balanced.{each-more, each-stays}
use Rattle.assertions.proofs.balances.asked.Goals as goal

pub loop-txn-preserved : goal.loop-txn-preserved
loop-txn-preserved c =
    let b = c.loop-txn.balances in
    let new = c.ask_each.new.balances in
    record {
      fresh = c.in_ok-ask_each.ensures.fresh c.loop-txn.invariant.fresh;
      asked = each-more (λ (t : Txn). list_all (is_asked b.own b.below) t.postings) (λ (t : Txn). list_all (is_asked new.own new.below) t.postings) c.args.txns.now c.loop-txn.txn-index c.txn-item.result c.loop-txn-test.true c.txn-item.is
          (λ t h. each-stays _ _ t.postings c.in_ok-ask_each.ensures.stays.asked h) c.loop-txn.invariant.asked
          (ap (list_all (is_asked new.own new.below)) (sym c.as_slice.ensures) ∙ c.in_ok-ask_each.ensures.asked);
    }
