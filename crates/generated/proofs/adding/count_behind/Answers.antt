use Rattle.std.proofs.Common.{ℕ, ◌+◌, length, ap, ◌∙◌, refl}
use Rattle.query.specs.OwnLetters.{own_in}
use Rattle.rule_entries.specs.Counted.{told}
use Rattle.generated.specs.Added.{added_by}
use Rattle.generated.specs.Asking.{all_asked}
use Rattle.generated.proofs.Keeping.{known_here}
use Rattle.generated.proofs.Steps.{all_made, answers_there, ask_none, ask_there, count_there}
use Rattle.generated.proofs.adding.count_behind.Goals as goal

pub loop-asker-init : goal.loop-asker-init
loop-asker-init c = record { at = refl; count = refl; ask = ask_none c.args.askers.now c.requires.answers }

pub count_one-requires-clause-answers : goal.count_one-requires-clause-answers
count_one-requires-clause-answers c = answers_there c.args.askers.now c.loop-asker.askers c.loop-asker.asker-index c.asker-item.result c.loop-asker.invariant.ask c.loop-asker-test.true

pub count_one-requires-clause-known : goal.count_one-requires-clause-known
count_one-requires-clause-known c =
    known_here (own_in c.args.accounts.now.types.now) c.args.txn.now c.args.posting.now c.args.askers.now c.loop-asker.askers c.loop-asker.asker-index c.loop-asker.at c.asker-item.result
    c.known-verdicts.result.now c.known_at-one.result c.loop-asker.invariant.ask c.loop-asker-test.true c.loop-asker.invariant.at
    (c.known-verdicts.ensures (all_asked c.args.askers.now) c.requires.kept) c.known_at-one.ensures

pub loop-asker-preserved : goal.loop-asker-preserved
loop-asker-preserved c =
    let old = c.args.askers.now in
    let now = c.loop-asker.askers in
    let at = c.loop-asker.asker-index in
    let made = added_by (own_in c.args.accounts.now.types.now) c.args.txn.now c.args.posting.now in
    record {
      at = ap (λ (n : ℕ). n + 1) c.loop-asker.invariant.at;
      count = c.saturating_add-count.ensures ∙ count_there old now at c.asker-item.result c.loop-asker.invariant.ask c.loop-asker-test.true made c.loop-asker.count c.count_one.result c.loop-asker.invariant.count c.count_one.ensures.count;
      ask = ask_there old now at c.asker-item.result c.loop-asker.invariant.ask c.loop-asker-test.true c.count_one.new.asker c.count_one.ensures.asks;
    }

pub returns : goal.returns
returns c =
    let made = added_by (own_in c.args.accounts.now.types.now) c.args.txn.now c.args.posting.now in
    record {
      count = c.loop-asker.invariant.count ∙ ap (λ xs. told (length xs)) (all_made made c.args.askers.now c.loop-asker.asker-index c.loop-asker-test.false);
      ask = c.loop-asker.invariant.ask;
    }
