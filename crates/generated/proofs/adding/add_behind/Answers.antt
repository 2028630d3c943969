use Rattle.std.proofs.Common.{ℕ, ◌+◌, List, ◌++◌, append_assoc, get_or, take, refl, sym, ap, ◌∙◌}
use Rattle.std.proofs.lemmas.List.{append-nil}
use Rattle.std.specs.List.{flat_map}
use Rattle.book.specs.declared.transaction.Posting.{Posting}
use Rattle.query.specs.OwnLetters.{own_in}
use Rattle.generated.specs.Added.{added_by}
use Rattle.generated.specs.Asking.{all_asked, asked_of}
use Rattle.generated.proofs.Keeping.{added_asked, known_here}
use Rattle.generated.proofs.Steps.{all_made, answers_there, ask_none, ask_there, made_there}
use Rattle.generated.proofs.adding.add_behind.Goals as goal

pub loop-asker-init : goal.loop-asker-init
loop-asker-init c = record { at = refl; added = sym (append-nil c.args.postings.now.items); ask = ask_none c.args.askers.now c.requires.answers }

pub means-asked-requires-clause-answers : goal.means-asked-requires-clause-answers
means-asked-requires-clause-answers c = answers_there c.args.askers.now c.loop-asker.askers c.loop-asker.asker-index c.asker-item.result c.loop-asker.invariant.ask c.loop-asker-test.true

pub means-asked-requires-clause-known : goal.means-asked-requires-clause-known
means-asked-requires-clause-known c =
    known_here (own_in c.args.accounts.now.types.now) c.args.txn.now c.args.posting.now c.args.askers.now c.loop-asker.askers c.loop-asker.asker-index c.loop-asker.at c.asker-item.result
    c.known-verdicts.result.now c.known_at-one.result c.loop-asker.invariant.ask c.loop-asker-test.true c.loop-asker.invariant.at
    (c.known-verdicts.ensures (all_asked c.args.askers.now) c.requires.kept) c.known_at-one.ensures

pub loop-asker-preserved : goal.loop-asker-preserved
loop-asker-preserved c =
    let old = c.args.askers.now in
    let now = c.loop-asker.askers in
    let at = c.loop-asker.asker-index in
    let made = added_by (own_in c.args.accounts.now.types.now) c.args.txn.now c.args.posting.now in
    let before = c.args.postings.now.items in
    let here = asked_of (get_or now at c.asker-item.result) in
    record {
      at = ap (λ (n : ℕ). n + 1) c.loop-asker.invariant.at;
      added = c.in_ok-add_if.ensures
          ∙ ap (λ (ps : List Posting). c.loop-asker.postings.items ++ ps)
          (added_asked (own_in c.args.accounts.now.types.now) c.args.txn.now c.args.posting.now (asked_of c.means-asked.new.asker) here c.means-asked.result
          c.means-asked.ensures.found c.means-asked.ensures.asks.same)
          ∙ ap (λ (ps : List Posting). ps ++ made here) c.loop-asker.invariant.added
          ∙ append_assoc before (flat_map made (take at (all_asked old))) (made here)
          ∙ ap (λ (ps : List Posting). before ++ ps) (made_there old now at c.asker-item.result c.loop-asker.invariant.ask c.loop-asker-test.true made);
      ask = ask_there old now at c.asker-item.result c.loop-asker.invariant.ask c.loop-asker-test.true c.means-asked.new.asker c.means-asked.ensures.asks;
    }

pub returns : goal.returns
returns c =
    let made = added_by (own_in c.args.accounts.now.types.now) c.args.txn.now c.args.posting.now in
    record {
      added = c.loop-asker.invariant.added ∙ ap (λ (ps : List Posting). c.args.postings.now.items ++ ps) (all_made made c.args.askers.now c.loop-asker.asker-index c.loop-asker-test.false);
      ask = c.loop-asker.invariant.ask;
    }
