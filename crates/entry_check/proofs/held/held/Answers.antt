use Rattle.std.proofs.Common.{◌≡◌, List, ℕ, true, sym, ◌∙◌, subst}
use Rattle.entry_balance.specs.Tally.{total_of}
use Rattle.entry_balance.proofs.Adding.{if_err}
use Rattle.entry_balance.proofs.Causes.{if_ok}
use Rattle.assertions.specs.Assertions.{held_in}
use Rattle.assertions.specs.Kept.{is_kept_for}
use Rattle.entry_check.specs.Checked.{told_before}
use Rattle.entry_check.proofs.Holding.{held_total, held_range}
use Rattle.entry_check.proofs.held.held.Goals as goal

pub returns-clause-value : goal.returns-clause-value
returns-clause-value g c = if_ok _ _ c.checked_sum.result (λ held is done h kept.
    let here = c.args.here.now in
    let told = told_before (g.S.Sums.txns c.args.sums.now) (g.S.Sums.place c.args.sums.now) in
    let below = c.args.below in
    let account = c.args.account.now in
    let symbol = c.args.symbol.now in
    let there = c.asked_for.ensures done h (subst (λ (a : List ℕ). is_kept_for here.own here.below a below ≡ true) (sym c.as_bytes.ensures) kept) in
    is ∙ held_total told below account symbol done c.told-before.result c.total_in-so_far.result c.told-before.ensures.value
    (c.total_in-so_far.ensures (held_in below c.as_bytes.result.now done) there ∙ (λ i. total_of (c.as_str.ensures i) (held_in below (c.as_bytes.ensures i) done))))
    c.checked_sum.ensures.value

pub returns-clause-range : goal.returns-clause-range
returns-clause-range g c = if_err _ _ c.checked_sum.result (λ e fault range done h kept.
    let here = c.args.here.now in
    let told = told_before (g.S.Sums.txns c.args.sums.now) (g.S.Sums.place c.args.sums.now) in
    let below = c.args.below in
    let account = c.args.account.now in
    let symbol = c.args.symbol.now in
    let there = c.asked_for.ensures done h (subst (λ (a : List ℕ). is_kept_for here.own here.below a below ≡ true) (sym c.as_bytes.ensures) kept) in
    held_range told below account symbol done c.told-before.result c.total_in-so_far.result c.told-before.ensures.value
    (c.total_in-so_far.ensures (held_in below c.as_bytes.result.now done) there ∙ (λ i. total_of (c.as_str.ensures i) (held_in below (c.as_bytes.ensures i) done)))
    fault)
    c.checked_sum.ensures.fault
