use Rattle.std.proofs.Common.{[], ◌∷◌, ◌++◌, ◌∙◌}
use Rattle.entry_balance.proofs.Adding.{if_err}
use Rattle.assertions.proofs.Balanced.{asked_same}
use Rattle.entry_check.specs.Checked.{told_before}
use Rattle.entry_check.proofs.Within.{out_alone, out_last}
use Rattle.entry_check.proofs.failure.judge_next.Goals as goal

pub returns-in-Err-clause-range : goal.returns-in-Err-clause-range
returns-in-Err-clause-range g c = λ range done h asked.
    out_alone (told_before (g.S.Sums.txns c.args.sums.now) (g.S.Sums.place c.args.sums.now)) (done ++ c.args.posting.now ∷ []) (c.in-Err.ensures.range range done h)

pub returns-clause-range : goal.returns-clause-range
returns-clause-range g c = if_err _ _ c.failure.result (λ e beyond range done h asked.
    let old = c.args.here.now in
    let new = c.add_posting.new.balances in
    let p = c.args.posting.now in
    out_last (told_before (g.S.Sums.txns c.args.sums.now) (g.S.Sums.place c.args.sums.now)) done p
    (beyond range (done ++ p ∷ []) (c.in-Ok.ensures.ok done h) (asked_same old.own old.below new.own new.below p c.in-Ok.ensures.own c.in-Ok.ensures.below ∙ asked)))
    c.failure.ensures.range
