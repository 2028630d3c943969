use Rattle.std.proofs.Common.{length, refl, ap, ◌∙◌}
use Rattle.query.specs.OwnLetters.{own_in}
use Rattle.rule_entries.specs.Counted.{told}
use Rattle.rule_entries.proofs.Totals.{flat_all, flat_count}
use Rattle.generated.specs.Added.{added_to}
use Rattle.generated.specs.Asking.{all_asked}
use Rattle.generated.proofs.Steps.{ask_none, ask_then, count_same_txn, ready_after}
use Rattle.generated.proofs.adding.count_added.Goals as goal

pub loop-txn-init : goal.loop-txn-init
loop-txn-init c = record { count = refl; ask = ask_none c.args.askers.now c.requires.answers }

pub count_in-requires : goal.count_in-requires
count_in-requires c = ready_after c.args.askers.now c.loop-txn.askers c.args.accounts.now.kept.now c.requires c.loop-txn.invariant.ask

pub loop-txn-preserved : goal.loop-txn-preserved
loop-txn-preserved c =
    let old = c.args.askers.now in
    let made = added_to (own_in c.args.accounts.now.types.now) (all_asked old) in
    record {
      count = c.saturating_add-count.ensures ∙ flat_count made c.args.txns.now c.loop-txn.txn-index c.txn-item.result
          c.loop-txn.count c.count_in.result c.loop-txn-test.true c.loop-txn.invariant.count
          (c.count_in.ensures.count ∙ count_same_txn (own_in c.args.accounts.now.types.now) old c.loop-txn.askers c.loop-txn.invariant.ask
          c.args.txns.now c.loop-txn.txn-index c.txn-item.result c.txn-item.is);
      ask = ask_then old c.loop-txn.askers c.count_in.new.askers c.loop-txn.invariant.ask c.count_in.ensures.ask;
    }

pub returns : goal.returns
returns c =
    let made = added_to (own_in c.args.accounts.now.types.now) (all_asked c.args.askers.now) in
    record {
      count = c.loop-txn.invariant.count ∙ ap (λ ps. told (length ps)) (flat_all made c.args.txns.now c.args.txns.now c.loop-txn.txn-index c.loop-txn-test.false refl);
      ask = c.loop-txn.invariant.ask;
    }
