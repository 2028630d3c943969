use Rattle.std.proofs.Common.{sym, ◌∙◌}
use Rattle.std.proofs.lemmas.Bool.{false≢true}
use Rattle.entry_balance.proofs.Adding.{false-from, if_err}
use Rattle.entry_balance.proofs.Causes.{if_ok}
use Rattle.entry_balance.proofs.Turnover.{fits-first}
use Rattle.entry_check.specs.Checked.{told_before, held_after}
use Rattle.entry_check.proofs.make.assigned_value.Goals as goal

pub returns-in-Err-clause-range : goal.returns-in-Err-clause-range
returns-in-Err-clause-range g c = λ range done h kept.
    let told = told_before (g.S.Sums.txns c.args.sums.now) (g.S.Sums.place c.args.sums.now) in
    let w = c.args.wanted.now in
    false-from _ (λ fits. false≢true (sym (c.in-Err.ensures.range range done h kept) ∙ fits-first (held_after told w.below c.args.account.now w.amount.symbol done) _ fits))

pub returns-clause-value : goal.returns-clause-value
returns-clause-value g c = if_ok _ _ c.difference.result (λ value is done h kept.
    let told = told_before (g.S.Sums.txns c.args.sums.now) (g.S.Sums.place c.args.sums.now) in
    let w = c.args.wanted.now in
    is (held_after told w.below c.args.account.now w.amount.symbol done) (c.in-Ok.ensures.value done h kept))
    c.difference.ensures.value

pub returns-clause-range : goal.returns-clause-range
returns-clause-range g c = if_err _ _ c.difference.result (λ e out range done h kept.
    let told = told_before (g.S.Sums.txns c.args.sums.now) (g.S.Sums.place c.args.sums.now) in
    let w = c.args.wanted.now in
    out range (held_after told w.below c.args.account.now w.amount.symbol done) (c.in-Ok.ensures.value done h kept))
    c.difference.ensures.range
