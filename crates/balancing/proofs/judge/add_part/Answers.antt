use Rattle.std.proofs.Common.{◌≡◌, ◌<◌, ◌≤◌, List, ◌++◌, length, get_or, take, sym, ap, ◌∙◌, subst}
use Rattle.std.specs.List.{flat_map}
use Rattle.book.specs.declared.transaction.Posting.{Posting}
use Rattle.entry_balance.specs.Values.{Value}
use Rattle.entry_balance.specs.Tally.{turnover_fits}
use Rattle.entry_balance.specs.Turnover.{IsTurnover}
use Rattle.balancing.specs.Walk.{moved_when}
use Rattle.balancing.proofs.Parts.{moved_chosen}
use Rattle.entry_balance.proofs.Adding.{group_range, take_past}
use Rattle.balancing.proofs.judge.add_part.Goals as goal

pub returns-in-Err-clause-range : goal.returns-in-Err-clause-range
returns-in-Err-clause-range c = λ is before h.
    let t = c.args.txn.now in
    let f = moved_when c.args.part c.args.day t in
    let i = c.loop-posting.posting-index in
    let p = c.posting-item.result in
    let Below : List Posting → Type 0 = λ ps. i < length ps in
    let At : List Posting → Type 0 = λ ps. p ≡ get_or ps i p in
    let seen = c.as_slice-posting-items.ensures in
    ap (λ (vs : List Value). turnover_fits (before ++ vs)) (sym (moved_chosen c.args.part c.args.day t t.postings))
    ∙ group_range f before t.postings i p (subst Below seen c.loop-posting-test.true) (subst At seen c.posting-item.is)
    (c.in-Err.ensures.range is (before ++ flat_map f (take i t.postings)) (c.loop-posting.invariant before h))

pub returns-clause-ok : goal.returns-clause-ok
returns-clause-ok c = λ before h.
    let t = c.args.txn.now in
    let f = moved_when c.args.part c.args.day t in
    let more : length t.postings ≤ c.loop-posting.posting-index = subst (λ (ps : List Posting). length ps ≤ c.loop-posting.posting-index) c.as_slice-posting-items.ensures c.loop-posting-test.false in
    subst (λ (vs : List Value). IsTurnover (before ++ vs) c.loop-posting.totals)
    (ap (flat_map f) (take_past t.postings c.loop-posting.posting-index more) ∙ moved_chosen c.args.part c.args.day t t.postings)
    (c.loop-posting.invariant before h)
