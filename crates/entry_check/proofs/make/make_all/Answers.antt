use Rattle.std.proofs.Common.{◌≡◌, ◌≤◌, ◌+◌, List, ◌∷◌, [], ◌++◌, length, false, sym, ap, ◌∙◌, subst, rules}
use Rattle.std.specs.List.{list_all}
use Rattle.std.proofs.lemmas.Iterator.Adapters.{YieldsList-from_vec}
use Rattle.std.proofs.lemmas.Iterator.Consumers.{YieldsList-end, YieldsList-turn, YieldsList-so_far}
use Rattle.std.proofs.lemmas.List.{map-id}
use Rattle.book.specs.declared.transaction.Posting.{Posting}
use Rattle.entry_balance.proofs.Adding.{list_all-at}
use Rattle.assertions.specs.Kept.{is_asked}
use Rattle.assertions.proofs.Balanced.{asked_same, each-stays}
use Rattle.balancing.proofs.Giving.{front-is}
use Rattle.entry_check.specs.Asking.{making, nodes_making}
use Rattle.entry_check.specs.Checked.{told_before, made_posting, made_postings}
use Rattle.entry_check.specs.Ranging.{are_in_range}
use Rattle.entry_check.proofs.Asked.{asked_both}
use Rattle.entry_check.proofs.Counting.{asked_push}
use Rattle.entry_check.proofs.Giving.{made-push, through_beyond}
use Rattle.entry_check.proofs.make.make_all.Goals as goal

pub loop-posting-preserved : goal.loop-posting-preserved
loop-posting-preserved g c =
    let told = told_before (g.S.Sums.txns c.args.sums.now) (g.S.Sums.place c.args.sums.now) in
    let all = c.into_vec-posting-items.result.items in
    let whole : all ≡ c.args.postings = c.into_vec-posting-items.ensures in
    let yields = YieldsList-from_vec {s = c.into_iter-posting-iterator.result} all (search rules) (search rules) in
    let xs = c.loop-posting.yielded in
    let x = c.in-Some.posting in
    let turn = YieldsList-turn yields xs c.loop-posting.posting-iterator c.loop-posting.yielded_by c.next.result c.next.new.self x c.in-Some.is c.next.ensures.steps in
    let old = c.loop-posting.here in
    let new = c.make_next.new.here in
    let kept = c.loop-posting.invariant in
    let asked = list_all-at (is_asked old.own old.below) all (length xs) x turn.0 turn.1 (ap (list_all (is_asked old.own old.below)) whole ∙ kept.asked) in
    let next = c.in-Ok-make_next.ensures.made kept.here asked in
    record {
      can = tt;
      finite = tt;
      made = next.is ∙ (λ i. kept.made i ++ made_posting told (kept.made i) x x.amount x.wanted ∷ []) ∙ sym (made-push told xs x);
      here = next.here;
      asked = each-stays _ _ c.args.postings (λ p e. asked_same old.own old.below new.own new.below p c.in-Ok-make_next.ensures.own c.in-Ok-make_next.ensures.below ∙ e) kept.asked;
      steps = asked_both _ _ _ kept.steps c.in-Ok-make_next.ensures.steps;
      few = asked_push (making (g.S.Sums.asks c.args.sums.now)) xs x c.args.steps.now.nodes c.loop-posting.steps.nodes c.make_next.new.steps.nodes kept.few c.in-Ok-make_next.ensures.few;
    }

pub returns-in-Err-make_next-clause-range : goal.returns-in-Err-make_next-clause-range
returns-in-Err-make_next-clause-range g c = λ range.
    let told = told_before (g.S.Sums.txns c.args.sums.now) (g.S.Sums.place c.args.sums.now) in
    let all = c.into_vec-posting-items.result.items in
    let whole : all ≡ c.args.postings = c.into_vec-posting-items.ensures in
    let yields = YieldsList-from_vec {s = c.into_iter-posting-iterator.result} all (search rules) (search rules) in
    let xs = c.loop-posting.yielded in
    let x = c.in-Some.posting in
    let turn = YieldsList-turn yields xs c.loop-posting.posting-iterator c.loop-posting.yielded_by c.next.result c.next.new.self x c.in-Some.is c.next.ensures.steps in
    let so_far = sym (map-id xs) ∙ YieldsList-so_far yields xs c.loop-posting.posting-iterator c.loop-posting.yielded_by in
    let old = c.loop-posting.here in
    let kept = c.loop-posting.invariant in
    let asked = list_all-at (is_asked old.own old.below) all (length xs) x turn.0 turn.1 (ap (list_all (is_asked old.own old.below)) whole ∙ kept.asked) in
    let front = front-is xs all x (sym so_far) turn.0 turn.1 in
    through_beyond told xs c.args.postings front.0 x (sym whole ∙ front.1)
    (subst (λ (ps : List Posting). are_in_range told (ps ++ made_posting told ps x x.amount x.wanted ∷ []) ≡ false) kept.made (c.in-Err-make_next.ensures.range range kept.here asked))

pub returns-in-Err-make_next-clause-steps : goal.returns-in-Err-make_next-clause-steps
returns-in-Err-make_next-clause-steps g c = asked_both _ _ _ c.loop-posting.invariant.steps c.in-Err-make_next.ensures.steps

pub returns-clause-made : goal.returns-clause-made
returns-clause-made g c =
    let told = told_before (g.S.Sums.txns c.args.sums.now) (g.S.Sums.place c.args.sums.now) in
    let all = c.into_vec-posting-items.result.items in
    let whole : all ≡ c.args.postings = c.into_vec-posting-items.ensures in
    let yields = YieldsList-from_vec {s = c.into_iter-posting-iterator.result} all (search rules) (search rules) in
    let end = YieldsList-end yields c.loop-posting.yielded c.loop-posting.posting-iterator c.loop-posting.yielded_by c.next.result c.next.new.self c.in-None.is c.next.ensures.steps in
    c.from_vec.ensures ∙ c.loop-posting.invariant.made ∙ ap (made_postings told []) (sym (map-id c.loop-posting.yielded) ∙ end.0 ∙ whole)

pub returns-clause-few : goal.returns-clause-few
returns-clause-few g c =
    let all = c.into_vec-posting-items.result.items in
    let whole : all ≡ c.args.postings = c.into_vec-posting-items.ensures in
    let yields = YieldsList-from_vec {s = c.into_iter-posting-iterator.result} all (search rules) (search rules) in
    let end = YieldsList-end yields c.loop-posting.yielded c.loop-posting.posting-iterator c.loop-posting.yielded_by c.next.result c.next.new.self c.in-None.is c.next.ensures.steps in
    subst (λ (ps : List Posting). c.loop-posting.steps.nodes ≤ c.args.steps.now.nodes + nodes_making (g.S.Sums.asks c.args.sums.now) ps) (sym (map-id c.loop-posting.yielded) ∙ end.0 ∙ whole) c.loop-posting.invariant.few
