use Rattle.std.proofs.Common.{◌∷◌, [], ◌++◌, ap, ◌∙◌}
use Rattle.book.specs.declared.transaction.Posting.{Posting}
use Rattle.query.specs.OwnLetters.{own_in}
use Rattle.entry_balance.specs.Entry.{with_postings}
use Rattle.rule_entries.proofs.Totals.{flat_all}
use Rattle.generated.specs.Added.{added}
use Rattle.generated.specs.Asking.{all_asked}
use Rattle.generated.proofs.Steps.{added_more, ask_none, ask_then, ready_after}
use Rattle.generated.proofs.adding.with_added.Goals as goal

pub loop-posting-init : goal.loop-posting-init
loop-posting-init c = record { added = c.in_ok-postings.ensures.items; ask = ask_none c.args.askers.now c.requires.answers }

pub add_behind-requires : goal.add_behind-requires
add_behind-requires c = ready_after c.args.askers.now c.loop-posting.askers c.args.accounts.now.kept.now c.requires c.loop-posting.invariant.ask

pub loop-posting-preserved : goal.loop-posting-preserved
loop-posting-preserved c =
    let old = c.args.askers.now in
    let now = c.loop-posting.askers in
    let before = c.loop-posting.postings.items in
    let ask = c.loop-posting.invariant.ask in
    record {
      added = added_more (own_in c.args.accounts.now.types.now) c.args.txn.now old now c.as_slice-posting-items.result.now before c.push.new.self.items c.add_behind.new.postings.items
          c.loop-posting.posting-index c.posting-item.result ask c.loop-posting-test.true c.posting-item.is c.loop-posting.invariant.added
          (c.in_ok-push.ensures.items ∙ ap (λ (p : Posting). before ++ p ∷ []) c.in_ok-copy.ensures) c.in_ok-add_behind.ensures.added;
      ask = ask_then old now c.add_behind.new.askers ask c.in_ok-add_behind.ensures.ask;
    }

pub returns : goal.returns
returns c =
    let f = λ (posting : Posting). posting ∷ added (own_in c.args.accounts.now.types.now) (all_asked c.args.askers.now) c.args.txn.now posting in
    record {
      added = c.in_ok-made.ensures
          ∙ ap (with_postings c.args.txn.now) (c.from_vec.ensures ∙ c.loop-posting.invariant.added
          ∙ flat_all f c.as_slice-posting-items.result.now c.args.txn.now.postings c.loop-posting.posting-index c.loop-posting-test.false c.as_slice-posting-items.ensures);
      ask = c.loop-posting.invariant.ask;
    }
