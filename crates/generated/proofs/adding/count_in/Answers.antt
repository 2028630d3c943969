use Rattle.std.proofs.Common.{length, refl, ap, ◌∙◌}
use Rattle.query.specs.OwnLetters.{own_in}
use Rattle.rule_entries.specs.Counted.{told}
use Rattle.rule_entries.proofs.Totals.{flat_all, flat_count}
use Rattle.generated.specs.Added.{added}
use Rattle.generated.specs.Asking.{all_asked}
use Rattle.generated.proofs.Steps.{ask_none, ask_then, count_same, ready_after}
use Rattle.generated.proofs.adding.count_in.Goals as goal

pub loop-posting-init : goal.loop-posting-init
loop-posting-init c = record { count = refl; ask = ask_none c.args.askers.now c.requires.answers }

pub count_behind-requires : goal.count_behind-requires
count_behind-requires c = ready_after c.args.askers.now c.loop-posting.askers c.args.accounts.now.kept.now c.requires c.loop-posting.invariant.ask

pub loop-posting-preserved : goal.loop-posting-preserved
loop-posting-preserved c =
    let old = c.args.askers.now in
    let made = added (own_in c.args.accounts.now.types.now) (all_asked old) c.args.txn.now in
    record {
      count = c.saturating_add-count.ensures ∙ flat_count made c.as_slice-posting-items.result.now c.loop-posting.posting-index c.posting-item.result
          c.loop-posting.count c.count_behind.result c.loop-posting-test.true c.loop-posting.invariant.count
          (c.count_behind.ensures.count ∙ count_same (own_in c.args.accounts.now.types.now) c.args.txn.now old c.loop-posting.askers c.loop-posting.invariant.ask
          c.as_slice-posting-items.result.now c.loop-posting.posting-index c.posting-item.result c.posting-item.is);
      ask = ask_then old c.loop-posting.askers c.count_behind.new.askers c.loop-posting.invariant.ask c.count_behind.ensures.ask;
    }

pub returns : goal.returns
returns c =
    let made = added (own_in c.args.accounts.now.types.now) (all_asked c.args.askers.now) c.args.txn.now in
    record {
      count = c.loop-posting.invariant.count ∙ ap (λ ps. told (length ps)) (flat_all made c.as_slice-posting-items.result.now c.args.txn.now.postings c.loop-posting.posting-index c.loop-posting-test.false c.as_slice-posting-items.ensures);
      ask = c.loop-posting.invariant.ask;
    }
