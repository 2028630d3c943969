use Rattle.std.proofs.Common.{◌≤◌, ◌+◌, Some, ap, ◌∙◌, arith}
use Rattle.hl_num.specs.Decimal.{Decimal}
use Rattle.entry_balance.proofs.Adding.{if_err}
use Rattle.entry_balance.proofs.Causes.{if_ok}
use Rattle.assertions.specs.Assertions.{failure_at}
use Rattle.entry_check.specs.Asking.{judging, other_nodes}
use Rattle.entry_check.specs.Checked.{told_before, others_before}
use Rattle.entry_check.specs.Failing.{found_beside}
use Rattle.entry_check.proofs.Counting.{on_pass}
use Rattle.entry_check.proofs.Holding.{held_beyond}
use Rattle.entry_check.proofs.failure.judge.Goals as goal

pub returns-in-Err-clause-range : goal.returns-in-Err-clause-range
returns-in-Err-clause-range g c = λ range through h kept.
    let told = told_before (g.S.Sums.txns c.args.sums.now) (g.S.Sums.place c.args.sums.now) in
    let w = c.args.wanted.now in
    held_beyond told w.below c.args.posting.now.account w.amount.symbol through (c.in-Err.ensures.range range through h kept)

pub returns-clause-fault : goal.returns-clause-fault
returns-clause-fault g c = if_ok _ _ c.judge_total.result (λ fault is through h kept.
    let told = told_before (g.S.Sums.txns c.args.sums.now) (g.S.Sums.place c.args.sums.now) in
    let others = others_before (g.S.Sums.txns c.args.sums.now) (g.S.Sums.place c.args.sums.now) in
    let p = c.args.posting.now in
    let w = c.args.wanted.now in
    is ∙ ap (λ (d : Decimal). failure_at p.line w (found_beside told others w p.account d)) (c.in-Ok.ensures.value through h kept))
    c.judge_total.ensures.fault

pub returns-clause-range : goal.returns-clause-range
returns-clause-range g c = if_err _ _ c.judge_total.result (λ e never range through h kept. absurd (never range)) c.judge_total.ensures.memory

pub returns-clause-few : goal.returns-clause-few
returns-clause-few g c =
    let sum = g.S.Sums.asks c.args.sums.now in
    let other = g.S.Sums.asks_other c.args.sums.now in
    let w = c.args.wanted.now in
    let n = c.judge_total.new.steps.nodes in
    let account = c.args.posting.now.account in
    let more = other_nodes other account (Some w) in
    on_pass (n ≤ c.held.new.steps.nodes + more) (n ≤ c.args.steps.now.nodes + judging sum other account (Some w)) c.judge_total.result
    (λ h. omega (arith, h, c.in-Ok.ensures.few)) c.judge_total.ensures.few
