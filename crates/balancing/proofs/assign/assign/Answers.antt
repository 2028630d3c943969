use Rattle.std.proofs.Common.{◌≡◌, List, ◌∷◌, [], ◌++◌, length, sym, ap, ◌∙◌, rules}
use Rattle.std.specs.List.{list_all}
use Rattle.std.proofs.lemmas.Iterator.Adapters.{YieldsList-from_vec}
use Rattle.std.proofs.lemmas.Iterator.Consumers.{YieldsList-end, YieldsList-turn, YieldsList-so_far}
use Rattle.std.proofs.lemmas.List.{map-id}
use Rattle.book.specs.declared.transaction.Posting.{Posting}
use Rattle.entry_balance.specs.Entry.{moved}
use Rattle.entry_balance.specs.Tally.{turnover_fits}
use Rattle.entry_balance.proofs.Adding.{list_all-at}
use Rattle.balancing.specs.Assigned.{given_posting_by, given_postings_by}
use Rattle.balancing.specs.Entering.{entering}
use Rattle.balancing.specs.Giving.{IsReady, given_next}
use Rattle.assertions.specs.Kept.{is_asked}
use Rattle.assertions.proofs.Balanced.{asked_same, each-stays}
use Rattle.balancing.proofs.Giving.{front-is, given-push, through_range}
use Rattle.balancing.proofs.assign.assign.Goals as goal

pub loop-posting-preserved : goal.loop-posting-preserved
loop-posting-preserved c =
    let all = c.into_vec-posting-items.result.items in
    let whole : all ≡ c.args.postings = c.into_vec-posting-items.ensures in
    let yields = YieldsList-from_vec {s = c.into_iter-posting-iterator.result} all (search rules) (search rules) in
    let xs = c.loop-posting.yielded in
    let x = c.in-Some.posting in
    let turn = YieldsList-turn yields xs c.loop-posting.posting-iterator c.loop-posting.yielded_by c.next.result c.next.new.self x c.in-Some.is c.next.ensures.steps in
    let old = c.loop-posting.here in
    let new = c.give_next.new.here in
    let asked_here = list_all-at (is_asked old.own old.below) all (length xs) x turn.0 turn.1 (ap (list_all (is_asked old.own old.below)) whole ∙ c.loop-posting.invariant.asked) in
    record {
      can = tt;
      finite = tt;
      given = λ seen h asked.
          let b = c.args.balances.now in
          let enter = entering c.args.form in
          let done = c.loop-posting.invariant.given seen h asked in
          let mine = list_all-at (is_asked b.own b.below) all (length xs) x turn.0 turn.1 (ap (list_all (is_asked b.own b.below)) whole ∙ asked) in
          let ready : IsReady seen c.loop-posting.given.items x b.own b.below old.own old.below = record { before = h; here = done.1; asked = mine; asked_here = asked_here } in
          let next = c.in-Ok-give_next.ensures.given seen ready in
          (next.is ∙ (λ i. done.0 i ++ given_posting_by enter (seen ++ done.0 i) x x.amount x.wanted ∷ []) ∙ sym (given-push enter seen xs x), next.here);
      asked = each-stays _ _ c.args.postings (λ p e. asked_same old.own old.below new.own new.below p c.in-Ok-give_next.ensures.own c.in-Ok-give_next.ensures.below ∙ e) c.loop-posting.invariant.asked;
    }

pub returns-in-Err-give_next-clause-range : goal.returns-in-Err-give_next-clause-range
returns-in-Err-give_next-clause-range c = λ range seen h asked.
    let all = c.into_vec-posting-items.result.items in
    let whole : all ≡ c.args.postings = c.into_vec-posting-items.ensures in
    let yields = YieldsList-from_vec {s = c.into_iter-posting-iterator.result} all (search rules) (search rules) in
    let xs = c.loop-posting.yielded in
    let x = c.in-Some.posting in
    let turn = YieldsList-turn yields xs c.loop-posting.posting-iterator c.loop-posting.yielded_by c.next.result c.next.new.self x c.in-Some.is c.next.ensures.steps in
    let so_far = sym (map-id xs) ∙ YieldsList-so_far yields xs c.loop-posting.posting-iterator c.loop-posting.yielded_by in
    let old = c.loop-posting.here in
    let b = c.args.balances.now in
    let enter = entering c.args.form in
    let done = c.loop-posting.invariant.given seen h asked in
    let ready : IsReady seen c.loop-posting.given.items x b.own b.below old.own old.below = record {
      before = h;
      here = done.1;
      asked = list_all-at (is_asked b.own b.below) all (length xs) x turn.0 turn.1 (ap (list_all (is_asked b.own b.below)) whole ∙ asked);
      asked_here = list_all-at (is_asked old.own old.below) all (length xs) x turn.0 turn.1 (ap (list_all (is_asked old.own old.below)) whole ∙ c.loop-posting.invariant.asked);
    } in
    let front = front-is xs all x (sym so_far) turn.0 turn.1 in
    through_range enter seen xs c.args.postings front.0 x (sym whole ∙ front.1)
    (ap (λ (ps : List Posting). turnover_fits (moved (given_next enter seen ps x))) (sym done.0) ∙ c.in-Err-give_next.ensures.range range seen ready)

pub returns-clause-given : goal.returns-clause-given
returns-clause-given c = λ seen h asked.
    let all = c.into_vec-posting-items.result.items in
    let whole : all ≡ c.args.postings = c.into_vec-posting-items.ensures in
    let yields = YieldsList-from_vec {s = c.into_iter-posting-iterator.result} all (search rules) (search rules) in
    let end = YieldsList-end yields c.loop-posting.yielded c.loop-posting.posting-iterator c.loop-posting.yielded_by c.next.result c.next.new.self c.in-None.is c.next.ensures.steps in
    c.from_vec.ensures ∙ (c.loop-posting.invariant.given seen h asked).0 ∙ ap (given_postings_by (entering c.args.form) seen) (sym (map-id c.loop-posting.yielded) ∙ end.0 ∙ whole)
