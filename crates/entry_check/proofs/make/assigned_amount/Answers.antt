use Rattle.std.proofs.Common.{◌≡◌, ◌≤◌, ◌+◌, ℕ, true, false, is_some, sym, ap, ◌∙◌, subst, rules}
use Rattle.book.specs.declared.amount.Assertion.{Assertion}
use Rattle.entry_balance.specs.Entry.{plain_amount}
use Rattle.assertions.specs.Kept.{is_kept_for, is_asked_by}
use Rattle.balancing.specs.Giving.{value_after, fits_after}
use Rattle.entry_check.specs.Checked.{told_before, held_after}
use Rattle.entry_check.proofs.Counting.{making_is}
use Rattle.entry_check.proofs.Giving.{made_is, assigned_beyond, none-is}
use Rattle.entry_check.proofs.make.assigned_amount.Goals as goal

pub returns-in-Ok-plain_amount-clause-made : goal.returns-in-Ok-plain_amount-clause-made
returns-in-Ok-plain_amount-clause-made g c = λ done h asked.
    let told = told_before (g.S.Sums.txns c.args.sums.now) (g.S.Sums.place c.args.sums.now) in
    let here = c.args.here.now in
    let p = c.args.posting.now in
    let missing : is_some p.amount ≡ false = search rules in
    let kept = ap (is_asked_by here.own here.below p.account) (sym c.in-Some.is) ∙ asked in
    let value = subst (λ (w : Assertion). is_kept_for here.own here.below p.account w.below ≡ true → c.in-Ok.value ≡ value_after (held_after told w.below p.account w.amount.symbol done) w.amount) c.get-wanted.ensures (c.in-Ok.ensures.value done h) kept in
    let symbol = c.as_str.ensures ∙ ap (λ (w : Assertion). w.amount.symbol) c.get-wanted.ensures in
    made_is told done p c.in-Some.wanted c.in-Some.is (none-is p.amount missing) c.in-Ok-plain_amount.amount (c.in-Ok-plain_amount.ensures ∙ (λ i. plain_amount (symbol i, value i)))

pub returns-in-Err-clause-range : goal.returns-in-Err-clause-range
returns-in-Err-clause-range g c = λ range done h asked.
    let told = told_before (g.S.Sums.txns c.args.sums.now) (g.S.Sums.place c.args.sums.now) in
    let here = c.args.here.now in
    let p = c.args.posting.now in
    let missing : is_some p.amount ≡ false = search rules in
    let kept = ap (is_asked_by here.own here.below p.account) (sym c.in-Some.is) ∙ asked in
    assigned_beyond told done p c.in-Some.wanted c.in-Some.is (none-is p.amount missing)
    (subst (λ (w : Assertion). is_kept_for here.own here.below p.account w.below ≡ true → fits_after (held_after told w.below p.account w.amount.symbol done) w.amount ≡ false) c.get-wanted.ensures (c.in-Err.ensures.range range done h) kept)

pub returns-in-Ok-plain_amount-clause-few : goal.returns-in-Ok-plain_amount-clause-few
returns-in-Ok-plain_amount-clause-few g c =
    let p = c.args.posting.now in
    let sum = g.S.Sums.asks c.args.sums.now in
    let missing : is_some p.amount ≡ false = search rules in
    let same = ap (λ (w : Assertion). sum p.account w.amount.symbol w.below) c.get-wanted.ensures ∙ sym (making_is sum p c.in-Some.wanted (none-is p.amount missing) c.in-Some.is) in
    subst (λ (n : ℕ). c.assigned_value.new.steps.nodes ≤ c.args.steps.now.nodes + n) same c.in-Ok.ensures.few
