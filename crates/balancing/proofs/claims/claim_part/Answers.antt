use Rattle.std.proofs.Common.{◌≡◌, ◌+◌, ◌<◌, true, false, List, ◌++◌, filter, take, length, get_or, sym, ap, ◌∙◌, subst}
use Rattle.book.specs.declared.transaction.Posting.{Posting}
use Rattle.entry_balance.proofs.Adding.{list_all-at}
use Rattle.assertions.specs.declared.balances.Balances.{Balances}
use Rattle.balancing.specs.Claims.{IsReached}
use Rattle.balancing.specs.Parts.{is_chosen}
use Rattle.assertions.specs.Kept.{is_asked}
use Rattle.assertions.proofs.Balanced.{asked_same}
use Rattle.balancing.proofs.Balanced.{reached_skip, reached_more, reached_range}
use Rattle.balancing.proofs.claims.claim_part.Goals as goal
use Rattle.balancing.proofs.claims.claim_part.Goals.{then-is_chosen+in-Ok-None, else-is_chosen}

pub loop-posting-preserved : goal.loop-posting-preserved
loop-posting-preserved c =
    let t = c.args.txn.now in
    let ps = t.postings in
    let f = is_chosen c.args.part c.args.day t in
    let i = c.loop-posting.posting-index in
    let p = c.posting-item.result in
    let slice = c.as_slice-posting-items.ensures in
    let less : i < length ps = subst (λ (qs : List Posting). i < length qs) slice c.loop-posting-test.true in
    let is : p ≡ get_or ps i p = subst (λ (qs : List Posting). p ≡ get_or qs i p) slice c.posting-item.is in
    let old = c.args.balances.now in
    let now = c.loop-posting.balances in
    let kept = c.loop-posting.invariant in
    record {
      reached = λ seen h asked. elim c.if-is_chosen.branch [
        | then-is_chosen+in-Ok-None w ↦
            let yes : f p ≡ true = sym c.is_chosen.ensures ∙ w.if-is_chosen.true in
            let reached = kept.reached seen h asked in
            let is_there = asked_same old.own old.below now.own now.below p kept.own kept.below ∙ list_all-at (is_asked old.own old.below) ps i p less is asked in
            subst (λ (b : Balances). IsReached seen f ps (i + 1) b.own b.below) (sym w.balances-is)
            (reached_more seen f ps i p less is now.own now.below w.claim.new.balances.own w.claim.new.balances.below w.in-Ok-None.field-0 yes reached
            (w.in-Ok-None.ensures.ok (seen ++ filter f (take i ps)) reached.kept is_there) w.in-Ok-None.field-0-is)
        | else-is_chosen w ↦
            let no : f p ≡ false = sym c.is_chosen.ensures ∙ w.if-is_chosen.false in
            subst (λ (b : Balances). IsReached seen f ps (i + 1) b.own b.below) (sym w.balances-is)
            (reached_skip seen f ps i p less is now.own now.below no (kept.reached seen h asked))
      ];
      own = elim c.if-is_chosen.branch [
        | then-is_chosen+in-Ok-None w ↦ ap (λ (b : Balances). b.own.1) w.balances-is ∙ w.in-Ok-None.ensures.own ∙ kept.own
        | else-is_chosen w ↦ ap (λ (b : Balances). b.own.1) w.balances-is ∙ kept.own
      ];
      below = elim c.if-is_chosen.branch [
        | then-is_chosen+in-Ok-None w ↦ ap (λ (b : Balances). b.below.1) w.balances-is ∙ w.in-Ok-None.ensures.below ∙ kept.below
        | else-is_chosen w ↦ ap (λ (b : Balances). b.below.1) w.balances-is ∙ kept.below
      ];
    }

pub returns-in-Err-clause-range : goal.returns-in-Err-clause-range
returns-in-Err-clause-range c = λ range seen h asked.
    let t = c.args.txn.now in
    let ps = t.postings in
    let f = is_chosen c.args.part c.args.day t in
    let i = c.loop-posting.posting-index in
    let p = c.posting-item.result in
    let slice = c.as_slice-posting-items.ensures in
    let less : i < length ps = subst (λ (qs : List Posting). i < length qs) slice c.loop-posting-test.true in
    let is : p ≡ get_or ps i p = subst (λ (qs : List Posting). p ≡ get_or qs i p) slice c.posting-item.is in
    let yes : f p ≡ true = sym c.is_chosen.ensures ∙ c.if-is_chosen.true in
    reached_range seen f ps i p less is yes (c.in-Err.ensures.range range (seen ++ filter f (take i ps)) (c.loop-posting.invariant.reached seen h asked).kept)
