use Rattle.std.proofs.Common.{ℕ, List, [], ◌∷◌, ◌++◌, true, false, sym, ap, ◌∙◌, subst}
use Rattle.entry_balance.specs.Tally.{turnover_fits}
use Rattle.entry_balance.proofs.Adding.{on_ok, if_err}
use Rattle.assertions.specs.Assertions.{held_in}
use Rattle.assertions.specs.Kept.{IsKept, and_at, and_under}
use Rattle.assertions.proofs.Balanced.{balance_more, balance_range}
use Rattle.assertions.proofs.balances.add_posting.Goals as goal

pub returns-in-Err-clause-range : goal.returns-in-Err-clause-range
returns-in-Err-clause-range c = λ is seen h.
    let p = c.args.posting.now in
    let a = c.in-Some.amount in
    let account = c.as_bytes-account.ensures in
    let symbol = c.as_str-symbol.ensures in
    balance_range false p.account seen p a c.in-Some.is
    (ap (λ (x : List ℕ × List ℕ). turnover_fits (held_in false x.0 seen ++ (x.1, a.value) ∷ [])) (λ i. (sym account i, sym symbol i)) ∙ c.in-Err.ensures.range is (λ r. held_in false r seen) h.alone)

pub returns-in-Ok-clause-ok : goal.returns-in-Ok-clause-ok
returns-in-Ok-clause-ok c = on_ok c.add_above.result (λ ok seen h.
    let p = c.args.posting.now in
    let a = c.in-Some.amount in
    let account = c.as_bytes-account.ensures in
    let symbol = c.as_str-symbol.ensures in
    balance_more seen p a c.add.new.self c.add_above.new.below c.in-Some.is
    (subst (λ (x : List ℕ × List ℕ). IsKept (and_at (λ r. held_in false r seen) x.0 (x.1, a.value)) c.add.new.self) (λ i. (account i, symbol i)) (c.in-Ok.ensures.ok (λ r. held_in false r seen) h.alone))
    (subst (λ (x : List ℕ × List ℕ). IsKept (and_under (λ r. held_in true r seen) x.0 (x.1, a.value)) c.add_above.new.below) (λ i. (account i, symbol i)) (ok (λ r. held_in true r seen) h.under)))
    c.add_above.ensures.ok

pub returns-in-Ok-clause-range : goal.returns-in-Ok-clause-range
returns-in-Ok-clause-range c = if_err _ _ c.add_above.result (λ e told is seen h.
    let p = c.args.posting.now in
    let a = c.in-Some.amount in
    let symbol = c.as_str-symbol.ensures in
    let at = told is (λ r. held_in true r seen) h.under in
    balance_range true at.0 seen p a c.in-Some.is
    (ap (λ (s : List ℕ). turnover_fits (held_in true at.0 seen ++ (s, a.value) ∷ [])) (sym symbol) ∙ at.2))
    c.add_above.ensures.range
