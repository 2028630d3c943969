use Rattle.std.proofs.Common.{◌≡◌, ◌+◌, ◌<◌, ◌≤◌, ℕ, true, false, ◌++◌, filter, take, length, sum_by, arith, get_or, sym, ap, ◌∙◌, subst}
use Rattle.hl_base.specs.Counts.{Counts}
use Rattle.book.specs.SumsBefore.{OnlyAsked}
use Rattle.book.specs.declared.transaction.Posting.{Posting}
use Rattle.entry_balance.proofs.Adding.{list_all-at}
use Rattle.assertions.specs.declared.balances.Balances.{Balances}
use Rattle.assertions.specs.Kept.{is_asked}
use Rattle.assertions.proofs.Balanced.{asked_same}
use Rattle.balancing.specs.Parts.{is_in}
use Rattle.entry_check.specs.Asking.{judging}
use Rattle.entry_check.specs.Checked.{told_before, others_before}
use Rattle.entry_check.specs.Failing.{IsPast}
use Rattle.entry_check.proofs.Asked.{asked_both}
use Rattle.entry_check.proofs.Counting.{asked_further, asked_still, asked_through, pass_here}
use Rattle.entry_check.proofs.Judging.{past_skip, past_more, past_beyond}
use Rattle.entry_check.proofs.failure.judge_part.Goals as goal
use Rattle.entry_check.proofs.failure.judge_part.Goals.{then-is_in+in-Ok-None, else-is_in}

pub loop-posting-preserved : goal.loop-posting-preserved
loop-posting-preserved g c =
    let told = told_before (g.S.Sums.txns c.args.sums.now) (g.S.Sums.place c.args.sums.now) in
    let others = others_before (g.S.Sums.txns c.args.sums.now) (g.S.Sums.place c.args.sums.now) in
    let ps = c.args.postings.now in
    let f = is_in c.args.part in
    let i = c.loop-posting.posting-index in
    let p = c.posting-item.result in
    let less : i < length ps = c.loop-posting-test.true in
    let is : p ≡ get_or ps i p = c.posting-item.is in
    let old = c.args.here.now in
    let now = c.loop-posting.here in
    let kept = c.loop-posting.invariant in
    let now_steps = c.loop-posting.steps in
    let weight : Posting → ℕ = λ q. judging (g.S.Sums.asks c.args.sums.now) (g.S.Sums.asks_other c.args.sums.now) q.account q.wanted in
    record {
      past = λ done h asked. elim c.if-is_in.branch [
        | then-is_in+in-Ok-None w ↦
            let yes : f p ≡ true = sym c.is_in.ensures ∙ w.if-is_in.true in
            let past = kept.past done h asked in
            let is_there = asked_same old.own old.below now.own now.below p kept.own kept.below ∙ list_all-at (is_asked old.own old.below) ps i p less is asked in
            subst (λ (b : Balances). IsPast told others done f ps (i + 1) b.own b.below) (sym w.here-is)
            (past_more told others done f ps i p less is now.own now.below w.judge_next.new.here.own w.judge_next.new.here.below w.in-Ok-None.field-0 yes past
            (w.in-Ok-None.ensures.fault (done ++ filter f (take i ps)) past.kept is_there) w.in-Ok-None.field-0-is)
        | else-is_in w ↦
            let no_part : f p ≡ false = sym c.is_in.ensures ∙ w.if-is_in.false in
            subst (λ (b : Balances). IsPast told others done f ps (i + 1) b.own b.below) (sym w.here-is)
            (past_skip told others done f ps i p less is now.own now.below no_part (kept.past done h asked))
      ];
      own = elim c.if-is_in.branch [
        | then-is_in+in-Ok-None w ↦ ap (λ (b : Balances). b.own.1) w.here-is ∙ w.in-Ok-None.ensures.own ∙ kept.own
        | else-is_in w ↦ ap (λ (b : Balances). b.own.1) w.here-is ∙ kept.own
      ];
      below = elim c.if-is_in.branch [
        | then-is_in+in-Ok-None w ↦ ap (λ (b : Balances). b.below.1) w.here-is ∙ w.in-Ok-None.ensures.below ∙ kept.below
        | else-is_in w ↦ ap (λ (b : Balances). b.below.1) w.here-is ∙ kept.below
      ];
      steps = elim c.if-is_in.branch [
        | then-is_in+in-Ok-None w ↦ subst (λ (s : Counts). OnlyAsked c.args.steps.now s) (sym w.steps-is) (asked_both _ _ _ kept.steps w.in-Ok-None.ensures.steps)
        | else-is_in w ↦ subst (λ (s : Counts). OnlyAsked c.args.steps.now s) (sym w.steps-is) kept.steps
      ];
      few = elim c.if-is_in.branch [
        | then-is_in+in-Ok-None w ↦
            let yes : f p ≡ true = sym c.is_in.ensures ∙ w.if-is_in.true in
            let one = pass_here (w.judge_next.new.steps.nodes ≤ now_steps.nodes + weight p) w.in-Ok-None.field-0 w.in-Ok-None.field-0-is w.in-Ok-None.ensures.few in
            subst (λ (s : Counts). s.nodes ≤ c.args.steps.now.nodes + sum_by weight (filter f (take (i + 1) ps))) (sym w.steps-is)
            (asked_further weight f ps i p less is yes c.args.steps.now.nodes now_steps.nodes w.judge_next.new.steps.nodes kept.few one)
        | else-is_in w ↦
            let no_part : f p ≡ false = sym c.is_in.ensures ∙ w.if-is_in.false in
            subst (λ (s : Counts). s.nodes ≤ c.args.steps.now.nodes + sum_by weight (filter f (take (i + 1) ps))) (sym w.steps-is)
            (asked_still weight f ps i p less is no_part c.args.steps.now.nodes now_steps.nodes kept.few)
      ];
    }

pub returns-in-Err-clause-range : goal.returns-in-Err-clause-range
returns-in-Err-clause-range g c = λ range done h asked.
    let told = told_before (g.S.Sums.txns c.args.sums.now) (g.S.Sums.place c.args.sums.now) in
    let others = others_before (g.S.Sums.txns c.args.sums.now) (g.S.Sums.place c.args.sums.now) in
    let ps = c.args.postings.now in
    let f = is_in c.args.part in
    let i = c.loop-posting.posting-index in
    let p = c.posting-item.result in
    let less : i < length ps = c.loop-posting-test.true in
    let is : p ≡ get_or ps i p = c.posting-item.is in
    let yes : f p ≡ true = sym c.is_in.ensures ∙ c.if-is_in.true in
    let old = c.args.here.now in
    let now = c.loop-posting.here in
    let kept = c.loop-posting.invariant in
    let past = kept.past done h asked in
    let is_there = asked_same old.own old.below now.own now.below p kept.own kept.below ∙ list_all-at (is_asked old.own old.below) ps i p less is asked in
    past_beyond told others done f ps i p less is yes (c.in-Err.ensures.range range (done ++ filter f (take i ps)) past.kept is_there)

pub returns-clause-few : goal.returns-clause-few
returns-clause-few g c =
    let weight : Posting → ℕ = λ q. judging (g.S.Sums.asks c.args.sums.now) (g.S.Sums.asks_other c.args.sums.now) q.account q.wanted in
    asked_through weight (is_in c.args.part) c.args.postings.now c.loop-posting.posting-index c.args.steps.now.nodes c.loop-posting.steps.nodes (omega (arith, c.loop-posting-test.false)) c.loop-posting.invariant.few
