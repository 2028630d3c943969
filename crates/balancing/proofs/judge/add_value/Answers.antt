use Rattle.std.proofs.Common.{sym, ap, arith, ◌∙◌}
use Rattle.hl_num.specs.Decimal.{Decimal}
use Rattle.book.specs.Entries.{held}
use Rattle.book.specs.Mixed.{fits_with}
use Rattle.entry_balance.specs.Tally.{added_to}
use Rattle.entry_balance.proofs.Adding.{on_both, if_err, moved_more, moved_range}
use Rattle.balancing.proofs.judge.add_value.Goals as goal

pub returns-clause-ok : goal.returns-clause-ok
returns-clause-ok c =
    on_both c.add.result (λ ok within before h.
    moved_more before c.args.symbol.now c.args.number c.args.totals.now c.add.new.self (omega (arith, c.decimals-decimals.ensures.value, c.decimals-decimals.ensures.bound)) within
    (ok ∙ ap (λ (d : Decimal). added_to c.args.totals.now c.args.symbol.now d) c.absolute.ensures) h)
    c.add.ensures.ok c.add.ensures.within

pub returns-clause-range : goal.returns-clause-range
returns-clause-range c =
    if_err _ _ c.add.result (λ e h is before turnover.
    moved_range before c.args.symbol.now c.args.number c.args.totals.now turnover
    (ap (λ (d : Decimal). fits_with (held c.args.symbol.now c.args.totals.now) d) (sym c.absolute.ensures) ∙ h is))
    c.add.ensures.range
