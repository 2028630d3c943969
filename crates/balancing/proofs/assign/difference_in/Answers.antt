use Rattle.std.proofs.Common.{◌≤◌, sym, ap, ◌∙◌, arith}
use Rattle.hl_num.specs.Decimal.{Decimal, add_fits, negated}
use Rattle.book.specs.Mixed.{plus}
use Rattle.entry_balance.proofs.Adding.{if_err}
use Rattle.entry_balance.proofs.Causes.{if_ok}
use Rattle.balancing.specs.Entering.{entering}
use Rattle.balancing.proofs.Adding.{difference_range_by}
use Rattle.balancing.proofs.assign.difference_in.Goals as goal

pub returns-clause-value : goal.returns-clause-value
returns-clause-value c = if_ok _ _ c.checked_sum.result (λ value is values total.
    let w = c.args.wanted.now in
    is ∙ ap (plus w.value) (c.negated.ensures ∙ ap negated c.entered.ensures)
    ∙ ap (λ (d : Decimal). plus w.value (negated (entering c.args.form d))) total)
    c.checked_sum.ensures.value

pub returns-clause-range : goal.returns-clause-range
returns-clause-range c = if_err _ _ c.checked_sum.result (λ e fault range values total.
    let w = c.args.wanted.now in
    let few : c.args.held.places ≤ 36 = omega (arith, c.decimals-decimals.ensures.value, c.decimals-decimals.ensures.bound) in
    difference_range_by c.args.form values w c.args.held few total (ap (add_fits w.value) (sym (c.negated.ensures ∙ ap negated c.entered.ensures)) ∙ fault))
    c.checked_sum.ensures.fault
