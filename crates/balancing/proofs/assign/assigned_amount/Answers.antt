use Rattle.std.proofs.Common.{◌≡◌, List, ℕ, ◌++◌, false, is_some, sym, ap, ◌∙◌, subst, rules}
use Rattle.book.specs.declared.amount.Assertion.{Assertion}
use Rattle.entry_balance.specs.Entry.{plain_amount}
use Rattle.assertions.specs.Assertions.{held_in}
use Rattle.balancing.specs.Giving.{IsHeld, value_after_by, fits_after_by}
use Rattle.balancing.specs.Entering.{entering}
use Rattle.balancing.proofs.Giving.{ready_held, given_is, assigned_range, none-is}
use Rattle.balancing.proofs.assign.assigned_amount.Goals as goal

pub returns-in-Ok-plain_amount-clause-given : goal.returns-in-Ok-plain_amount-clause-given
returns-in-Ok-plain_amount-clause-given c = λ seen done h.
    let p = c.args.posting.now in
    let missing : is_some p.amount ≡ false = search rules in
    let w = c.in-Some.wanted in
    let same : (c.as_bytes.result.now, c.get-wanted.result.now) ≡ (p.account, w) = λ i. (c.as_bytes.ensures i, c.get-wanted.ensures i) in
    let value : c.in-Ok.value ≡ value_after_by (entering c.args.form) (held_in w.below p.account (seen ++ done)) w.amount =
    subst (λ (x : List ℕ × Assertion). c.in-Ok.value ≡ value_after_by (entering c.args.form) (held_in x.1.below x.0 (seen ++ done)) x.1.amount) same
    (c.in-Ok.ensures.value seen done
    (subst (λ (x : List ℕ × Assertion). IsHeld seen done x.0 x.1.below c.args.balances.now.own c.args.balances.now.below c.args.here.now.own c.args.here.now.below) (sym same)
    (ready_held (entering c.args.form) seen done p _ _ _ _ h w c.in-Some.is))) in
    let symbol = c.as_str.ensures ∙ ap (λ (w : Assertion). w.amount.symbol) c.get-wanted.ensures in
    given_is (entering c.args.form) seen done p _ _ _ _ h w c.in-Some.is (none-is p.amount missing) c.in-Ok-plain_amount.amount (c.in-Ok-plain_amount.ensures ∙ (λ i. plain_amount (symbol i, value i)))

pub returns-in-Err-clause-range : goal.returns-in-Err-clause-range
returns-in-Err-clause-range c = λ range seen done h.
    let p = c.args.posting.now in
    let missing : is_some p.amount ≡ false = search rules in
    let w = c.in-Some.wanted in
    let same : (c.as_bytes.result.now, c.get-wanted.result.now) ≡ (p.account, w) = λ i. (c.as_bytes.ensures i, c.get-wanted.ensures i) in
    assigned_range (entering c.args.form) seen done p _ _ _ _ h w c.in-Some.is (none-is p.amount missing)
    (subst (λ (x : List ℕ × Assertion). fits_after_by (entering c.args.form) (held_in x.1.below x.0 (seen ++ done)) x.1.amount ≡ false) same
    (c.in-Err.ensures.range range seen done
    (subst (λ (x : List ℕ × Assertion). IsHeld seen done x.0 x.1.below c.args.balances.now.own c.args.balances.now.below c.args.here.now.own c.args.here.now.below) (sym same)
    (ready_held (entering c.args.form) seen done p _ _ _ _ h w c.in-Some.is))))
