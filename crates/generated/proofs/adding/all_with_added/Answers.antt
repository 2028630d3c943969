use Rattle.std.proofs.Common.{map, ap, ◌∙◌}
use Rattle.std.proofs.lemmas.List.{take_all}
use Rattle.query.specs.OwnLetters.{own_in}
use Rattle.generated.specs.Added.{with_added}
use Rattle.generated.specs.Asking.{all_asked}
use Rattle.generated.proofs.Steps.{ask_none, ask_then, ready_after, txns_more}
use Rattle.generated.proofs.adding.all_with_added.Goals as goal

pub loop-txn-init : goal.loop-txn-init
loop-txn-init c = record { made = c.in_ok-made.ensures.items; ask = ask_none c.args.askers.now c.requires.answers }

pub with_added-requires : goal.with_added-requires
with_added-requires c = ready_after c.args.askers.now c.loop-txn.askers c.args.accounts.now.kept.now c.requires c.loop-txn.invariant.ask

pub loop-txn-preserved : goal.loop-txn-preserved
loop-txn-preserved c =
    let old = c.args.askers.now in
    let now = c.loop-txn.askers in
    let ask = c.loop-txn.invariant.ask in
    record {
      made = txns_more (own_in c.args.accounts.now.types.now) old now c.args.txns.now c.loop-txn.made.items c.push.new.self.items c.loop-txn.txn-index c.txn-item.result
          c.in_ok-more.more ask c.loop-txn-test.true c.txn-item.is c.loop-txn.invariant.made c.in_ok-more.ensures.added c.in_ok-push.ensures.items;
      ask = ask_then old now c.with_added.new.askers ask c.in_ok-more.ensures.ask;
    }

pub returns : goal.returns
returns c =
    c.loop-txn.invariant.made
    ∙ ap (map (with_added (own_in c.args.accounts.now.types.now) (all_asked c.args.askers.now))) (take_all c.loop-txn.txn-index c.args.txns.now c.loop-txn-test.false)
