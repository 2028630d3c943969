use Rattle.std.proofs.Common.{◌≡◌, ◌≤◌, ◌+◌, ℕ, true, false, Option, Some, sym, ap, ◌∙◌, subst}
use Rattle.book.specs.declared.amount.Assertion.{Assertion}
use Rattle.entry_balance.proofs.Adding.{if_err}
use Rattle.entry_balance.proofs.Causes.{if_ok}
use Rattle.assertions.specs.Assertions.{failure_at}
use Rattle.assertions.specs.Kept.{is_kept_for, is_asked_by}
use Rattle.entry_check.specs.Asking.{judging}
use Rattle.entry_check.specs.Checked.{told_before, others_before, found_after, failure_after, wanted_fits}
use Rattle.entry_check.proofs.Counting.{on_pass}
use Rattle.entry_check.proofs.failure.failure.Goals as goal

pub returns-in-Some-clause-fault : goal.returns-in-Some-clause-fault
returns-in-Some-clause-fault g c = if_ok _ _ c.judge.result (λ fault is through h asked.
    let told = told_before (g.S.Sums.txns c.args.sums.now) (g.S.Sums.place c.args.sums.now) in
    let others = others_before (g.S.Sums.txns c.args.sums.now) (g.S.Sums.place c.args.sums.now) in
    let here = c.args.here.now in
    let p = c.args.posting.now in
    let kept = ap (is_asked_by here.own here.below p.account) (sym c.in-Some.is) ∙ asked in
    subst (λ (w : Assertion). is_kept_for here.own here.below p.account w.below ≡ true → fault ≡ failure_at p.line w (found_after told others w p.account through)) c.get.ensures (is through h) kept
    ∙ ap (failure_after told others through p) (sym c.in-Some.is))
    c.judge.ensures.fault

pub returns-in-Some-clause-range : goal.returns-in-Some-clause-range
returns-in-Some-clause-range g c = if_err _ _ c.judge.result (λ e beyond range through h asked.
    let told = told_before (g.S.Sums.txns c.args.sums.now) (g.S.Sums.place c.args.sums.now) in
    let here = c.args.here.now in
    let p = c.args.posting.now in
    let kept = ap (is_asked_by here.own here.below p.account) (sym c.in-Some.is) ∙ asked in
    ap (λ (o : Option Assertion). wanted_fits told p.account o through) c.in-Some.is
    ∙ subst (λ (w : Assertion). is_kept_for here.own here.below p.account w.below ≡ true → wanted_fits told p.account (Some w) through ≡ false) c.get.ensures (beyond range through h) kept)
    c.judge.ensures.range

pub returns-in-Some-clause-few : goal.returns-in-Some-clause-few
returns-in-Some-clause-few g c =
    let sum = g.S.Sums.asks c.args.sums.now in
    let other = g.S.Sums.asks_other c.args.sums.now in
    let n = c.judge.new.steps.nodes in
    let account = c.args.posting.now.account in
    let same = ap (λ (w : Assertion). judging sum other account (Some w)) c.get.ensures ∙ ap (judging sum other account) (sym c.in-Some.is) in
    on_pass (n ≤ c.args.steps.now.nodes + judging sum other account (Some c.get.result.now)) (n ≤ c.args.steps.now.nodes + judging sum other account c.args.posting.now.wanted) c.judge.result
    (λ h. subst (λ (k : ℕ). n ≤ c.args.steps.now.nodes + k) same h) c.judge.ensures.few
