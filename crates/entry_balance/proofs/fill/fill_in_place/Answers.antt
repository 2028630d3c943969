use Rattle.std.proofs.Common.{◌++◌, List, map, take, drop, set, get_or, ap, ◌∙◌}
use Rattle.std.proofs.lemmas.List.{append-nil, drop_all}
use Rattle.book.specs.declared.transaction.Posting.{Posting}
use Rattle.entry_balance.specs.Fill.{filled_in_place}
use Rattle.entry_balance.proofs.Adding.{take_past}
use Rattle.entry_balance.proofs.InPlace.{changed_more, changed_at}
use Rattle.entry_balance.proofs.fill.fill_in_place.Goals as goal

pub loop-posting-preserved : goal.loop-posting-preserved
loop-posting-preserved c =
    let filled = filled_in_place c.args.plan.now.real.items c.args.plan.now.balanced.items in
    let all = c.args.postings.now in
    let at = c.loop-posting.posting-index in
    let item = ap (λ (ps : List Posting). get_or ps at c.posting-item.result) c.loop-posting.invariant ∙ changed_at filled all at c.posting-item.result c.loop-posting-test.true in
    ap (λ (ps : List Posting). set ps at c.fill_in.new.posting) c.loop-posting.invariant
    ∙ ap (set (map filled (take at all) ++ drop at all) at) (c.in_ok-fill_in.ensures ∙ ap filled item)
    ∙ changed_more filled all at c.posting-item.result c.loop-posting-test.true

pub returns : goal.returns
returns c =
    let filled = filled_in_place c.args.plan.now.real.items c.args.plan.now.balanced.items in
    let all = c.args.postings.now in
    let at = c.loop-posting.posting-index in
    c.loop-posting.invariant
    ∙ ap (λ (ps : List Posting). map filled (take at all) ++ ps) (drop_all at all c.loop-posting-test.false)
    ∙ append-nil (map filled (take at all))
    ∙ ap (map filled) (take_past all at c.loop-posting-test.false)
