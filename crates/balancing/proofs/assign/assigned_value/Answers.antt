use Rattle.std.proofs.Common.{ℕ, List, ◌++◌, ap, ◌∙◌}
use Rattle.std.proofs.lemmas.Result.{err_from_is_err_and}
use Rattle.entry_balance.specs.Tally.{total_of}
use Rattle.entry_balance.proofs.Adding.{if_err}
use Rattle.entry_balance.proofs.Causes.{if_ok}
use Rattle.assertions.specs.Assertions.{held_in}
use Rattle.balancing.specs.Entering.{entering}
use Rattle.balancing.proofs.Giving.{total_here, sum_range}
use Rattle.balancing.proofs.assign.assigned_value.Goals as goal

pub returns-in_err-held-clause-range : goal.returns-in_err-held-clause-range
returns-in_err-held-clause-range c =
    let p = err_from_is_err_and c.from_residual.result c.from_residual.ensures.1 in
    rw p.1 (λ _ seen done h.
    let w = c.args.wanted.now in
    let account = c.args.account.now in
    sum_range (entering c.args.form) w.below account seen done w.amount c.total_in-before.result c.total_in-so_far.result
    (c.total_in-before.ensures (held_in w.below account seen) (c.asked_for.ensures seen h.before h.kept) ∙ ap (λ (s : List ℕ). total_of s (held_in w.below account seen)) c.as_str-symbol.ensures)
    (c.total_in-so_far.ensures (held_in w.below account done) (c.asked_for-2.ensures done h.here h.kept_here) ∙ ap (λ (s : List ℕ). total_of s (held_in w.below account done)) c.as_str-symbol.ensures)
    c.in_err-held.ensures.fault)

pub returns-clause-value : goal.returns-clause-value
returns-clause-value c = if_ok _ _ c.difference_in.result (λ value is seen done h.
    let w = c.args.wanted.now in
    let account = c.args.account.now in
    is (held_in w.below account (seen ++ done)) (c.in_ok-held.ensures.value ∙ total_here (entering c.args.form) w.below account seen done w.amount c.total_in-before.result c.total_in-so_far.result
    (c.total_in-before.ensures (held_in w.below account seen) (c.asked_for.ensures seen h.before h.kept) ∙ ap (λ (s : List ℕ). total_of s (held_in w.below account seen)) c.as_str-symbol.ensures)
    (c.total_in-so_far.ensures (held_in w.below account done) (c.asked_for-2.ensures done h.here h.kept_here) ∙ ap (λ (s : List ℕ). total_of s (held_in w.below account done)) c.as_str-symbol.ensures)))
    c.difference_in.ensures.value

pub returns-clause-range : goal.returns-clause-range
returns-clause-range c = if_err _ _ c.difference_in.result (λ e out range seen done h.
    let w = c.args.wanted.now in
    let account = c.args.account.now in
    out range (held_in w.below account (seen ++ done)) (c.in_ok-held.ensures.value ∙ total_here (entering c.args.form) w.below account seen done w.amount c.total_in-before.result c.total_in-so_far.result
    (c.total_in-before.ensures (held_in w.below account seen) (c.asked_for.ensures seen h.before h.kept) ∙ ap (λ (s : List ℕ). total_of s (held_in w.below account seen)) c.as_str-symbol.ensures)
    (c.total_in-so_far.ensures (held_in w.below account done) (c.asked_for-2.ensures done h.here h.kept_here) ∙ ap (λ (s : List ℕ). total_of s (held_in w.below account done)) c.as_str-symbol.ensures)))
    c.difference_in.ensures.range
