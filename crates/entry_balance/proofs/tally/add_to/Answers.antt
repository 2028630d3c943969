use Rattle.std.proofs.Common.{Option, sym, ap, ◌∙◌}
use Rattle.std.specs.Ordering.{nat_cmp}
use Rattle.std.specs.Cmp.Lexicographic.{slice_cmp}
use Rattle.std.specs.FinMap.Entries.{put}
use Rattle.std.proofs.lemmas.Result.{err_from_is_err_and}
use Rattle.hl_num.specs.Decimal.{Decimal}
use Rattle.book.specs.Mixed.{sum_with, fits_with}
use Rattle.entry_balance.specs.Tally.{named, are_within}
use Rattle.entry_balance.proofs.Adding.{on_ok}
use Rattle.entry_balance.proofs.Named.{held-named, within-put}
use Rattle.entry_balance.proofs.tally.add_to.Goals as goal

pub returns-in_err-sum-clause-range : goal.returns-in_err-sum-clause-range
returns-in_err-sum-clause-range c =
    let p = err_from_is_err_and c.from_residual.result c.from_residual.ensures.1 in
    let old = c.copied-old.ensures ∙ c.get.ensures.value ∙ held-named c.args.sums.now.entries c.args.symbol.now in
    rw p.1 (λ _. ap (λ (o : Option Decimal). fits_with o c.args.value) (sym old) ∙ c.in_err-sum.ensures.fault)

pub returns-clause-ok : goal.returns-clause-ok
returns-clause-ok c =
    let old = c.copied-old.ensures ∙ c.get.ensures.value ∙ held-named c.args.sums.now.entries c.args.symbol.now in
    on_ok c.put.result
    (λ e. e ∙ ap (λ (v : Decimal). put (slice_cmp nat_cmp) c.args.symbol.now v (named c.args.sums.now.entries)) (c.in_ok-sum.ensures.value ∙ ap (λ (o : Option Decimal). sum_with o c.args.value) old))
    c.put.ensures.ok

pub returns-clause-within : goal.returns-clause-within
returns-clause-within c =
    on_ok c.put.result
    (λ e h. ap are_within e ∙ within-put c.args.symbol.now c.in_ok-sum.sum (named c.args.sums.now.entries) c.in_ok-sum.ensures.within h)
    c.put.ensures.ok
