use Rattle.std.proofs.Common.{◌∷◌, [], List, Option, Some, sym, ap, ◌∙◌}
use Rattle.std.specs.Ordering.{nat_cmp}
use Rattle.std.specs.Cmp.Lexicographic.{slice_cmp}
use Rattle.std.specs.FinMap.Entries.{put}
use Rattle.std.proofs.lemmas.Result.{err_from_is_err_and}
use Rattle.hl_num.specs.Decimal.{Decimal}
use Rattle.book.specs.Entries.{held}
use Rattle.book.specs.Mixed.{fits_with}
use Rattle.entry_balance.specs.Tally.{named, only_sum, added_to}
use Rattle.entry_balance.proofs.Adding.{on_ok}
use Rattle.entry_balance.proofs.Named.{Entry}
use Rattle.entry_balance.proofs.Only.{after_put, only-none, held_same, same_only, other_only}
use Rattle.entry_balance.proofs.tally.add_to_only.Goals as goal

pub returns-in_err-checked_sum-in-Some-clause-range : goal.returns-in_err-checked_sum-in-Some-clause-range
returns-in_err-checked_sum-in-Some-clause-range c =
    let p = err_from_is_err_and c.from_residual.result c.from_residual.ensures.1 in
    rw p.1 (λ _. ap (λ (o : Option Entry). fits_with (held c.args.symbol.now (only_sum o)) c.args.value) c.in-Some.is
    ∙ ap (λ (o : Option Decimal). fits_with o c.args.value) (held_same c.args.symbol.now c.in-Some.first.now c.in-Some.sum (sym c.eq.ensures ∙ c.if-eq.true))
    ∙ c.in_err-checked_sum-in-Some.ensures.fault)

pub returns-in_ok-checked_sum-in-Some-clause-ok : goal.returns-in_ok-checked_sum-in-Some-clause-ok
returns-in_ok-checked_sum-in-Some-clause-ok c =
    only-none (Some (c.in-Some.first, c.in_ok-checked_sum-in-Some.field-0)) c.args.sums.now.entries c.requires
    ∙ ap (λ (d : Decimal). (c.in-Some.first.now, d) ∷ []) c.in_ok-checked_sum-in-Some.ensures.value
    ∙ same_only c.args.symbol.now c.in-Some.first.now c.in-Some.sum c.args.value (sym c.eq.ensures ∙ c.if-eq.true)
    ∙ ap (λ (o : Option Entry). added_to (only_sum o) c.args.symbol.now c.args.value) (sym c.in-Some.is)

pub returns-in_ok-put-in-Some-clause-ok : goal.returns-in_ok-put-in-Some-clause-ok
returns-in_ok-put-in-Some-clause-ok c =
    on_ok c.put-else-eq.result
    (λ e. after_put c.args.only.now c.put-else-eq.new.sums.entries c.args.symbol.now c.args.value (named c.put.new.sums.entries) e
    ∙ ap (put (slice_cmp nat_cmp) c.args.symbol.now c.args.value)
    (c.in_ok-put-in-Some.ensures.ok ∙ ap (λ (es : List Entry). put (slice_cmp nat_cmp) c.in-Some.first.now c.in-Some.sum (named es)) c.requires)
    ∙ other_only c.args.symbol.now c.in-Some.first.now c.in-Some.sum c.args.value (sym c.eq.ensures ∙ c.if-eq.false)
    ∙ ap (λ (o : Option Entry). added_to (only_sum o) c.args.symbol.now c.args.value) (sym c.in-Some.is))
    c.put-else-eq.ensures.ok
