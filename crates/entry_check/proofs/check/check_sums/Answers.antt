use Rattle.std.proofs.Common.{◌≤◌, ◌+◌, OnOk, sym, ◌∙◌, subst}
use Rattle.book.specs.declared.transaction.Txn.{Txn}
use Rattle.entry_balance.specs.Settled.{IsSettled}
use Rattle.entry_balance.proofs.Adding.{if_err}
use Rattle.entry_balance.proofs.Causes.{if_ok}
use Rattle.entry_check.specs.Asking.{nodes_asked, nodes_making}
use Rattle.entry_check.specs.Checked.{told_before, others_before, made}
use Rattle.entry_check.proofs.Counting.{all_asked, on_ok}
use Rattle.entry_check.proofs.Beyond.{making_out, judging_out}
use Rattle.entry_check.proofs.Giving.{none_left}
use Rattle.entry_check.proofs.check.check_sums.Goals as goal

pub returns-in-Err-clause-range : goal.returns-in-Err-clause-range
returns-in-Err-clause-range g c = λ range.
    let told = told_before (g.S.Sums.txns c.args.sums.now) (g.S.Sums.place c.args.sums.now) in
    let others = others_before (g.S.Sums.txns c.args.sums.now) (g.S.Sums.place c.args.sums.now) in
    let out = c.in-Err.ensures.range range in
    making_out told others c.args.txn out.0 out.1

pub returns-in-Ok-settle-clause-answer : goal.returns-in-Ok-settle-clause-answer
returns-in-Ok-settle-clause-answer g c = if_ok _ _ c.judge_settled.result (λ answer is.
    let told = told_before (g.S.Sums.txns c.args.sums.now) (g.S.Sums.place c.args.sums.now) in
    let o = c.in-Ok-settle.outcome in
    let settled_m = subst (λ (m : Txn). IsSettled m o.txn o.cause) c.in-Ok.ensures.made c.in-Ok-settle.ensures in
    is (made told c.args.txn) settled_m (λ none. none_left told c.args.txn (sym settled_m.cause ∙ none)))
    c.judge_settled.ensures.answer

pub returns-in-Ok-settle-clause-range : goal.returns-in-Ok-settle-clause-range
returns-in-Ok-settle-clause-range g c = if_err _ _ c.judge_settled.result (λ e beyond range.
    let told = told_before (g.S.Sums.txns c.args.sums.now) (g.S.Sums.place c.args.sums.now) in
    let o = c.in-Ok-settle.outcome in
    let settled_m = subst (λ (m : Txn). IsSettled m o.txn o.cause) c.in-Ok.ensures.made c.in-Ok-settle.ensures in
    let others = others_before (g.S.Sums.txns c.args.sums.now) (g.S.Sums.place c.args.sums.now) in
    let out = beyond range (made told c.args.txn) settled_m (λ none. none_left told c.args.txn (sym settled_m.cause ∙ none)) in
    judging_out told others c.args.txn (none_left told c.args.txn out.0) out.0 out.1)
    c.judge_settled.ensures.range

pub returns-in-Ok-settle-clause-few : goal.returns-in-Ok-settle-clause-few
returns-in-Ok-settle-clause-few g c =
    let sum = g.S.Sums.asks c.args.sums.now in
    let other = g.S.Sums.asks_other c.args.sums.now in
    let told = told_before (g.S.Sums.txns c.args.sums.now) (g.S.Sums.place c.args.sums.now) in
    let o = c.in-Ok-settle.outcome in
    let before = c.args.steps.now.nodes in
    let mid = c.make.new.steps.nodes in
    let n = c.judge_settled.new.steps.nodes in
    if_ok _ _ c.judge_settled.result (λ answer few. on_ok (n ≤ mid + nodes_asked sum other o.txn.postings) (n ≤ before + (nodes_making sum c.args.txn.postings + nodes_asked sum other c.args.txn.postings)) answer
    (λ h. all_asked sum other told c.args.txn c.in-Ok.made o.txn o.cause c.in-Ok.ensures.made c.in-Ok-settle.ensures before mid n c.in-Ok.ensures.few h) few)
    c.judge_settled.ensures.few
