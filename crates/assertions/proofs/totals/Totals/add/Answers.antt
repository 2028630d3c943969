use Rattle.std.proofs.Common.{◌≡◌, List, Option, Some, None, sym, ap, ◌∙◌}
use Rattle.std.specs.Ordering.{nat_cmp}
use Rattle.std.specs.Cmp.Lexicographic.{slice_cmp}
use Rattle.std.specs.FinMap.Entries.{put}
use Rattle.std.proofs.lemmas.Result.{err_from_is_err_and}
use Rattle.hl_num.specs.Decimal.{Decimal}
use Rattle.book.specs.Entries.{held}
use Rattle.book.specs.Mixed.{sum_with, fits_with}
use Rattle.entry_balance.specs.Values.{Value}
use Rattle.entry_balance.specs.Tally.{are_within}
use Rattle.entry_balance.proofs.Adding.{if_err, on_ok}
use Rattle.entry_balance.proofs.Named.{within-put}
use Rattle.assertions.specs.Texts.{values_in}
use Rattle.assertions.proofs.Texts.{held-values, values-set}
use Rattle.assertions.proofs.totals.Totals.add.Goals as goal

pub returns-in-Some-clause-ok : goal.returns-in-Some-clause-ok
returns-in-Some-clause-ok c =
    let q = c.args.symbol.now in
    let es = c.self.inside.sums.entries in
    let there : held q (values_in es) ≡ Some c.in-Some.sum.now = sym (held-values es q) ∙ sym c.in-Some.ensures.value in
    on_ok c.raise.result
    (λ new. ap values_in (c.get_mut.follows.holds c.raise.new.sum).0
    ∙ values-set es q c.in-Some.sum.now c.raise.new.sum c.get_mut.ensures.ordered (sym c.in-Some.ensures.value)
    ∙ ap (λ (d : Decimal). put (slice_cmp nat_cmp) q d (values_in es)) (new ∙ ap (λ (o : Option Decimal). sum_with o c.args.value) (sym there))
    ∙ ap (λ (vs : List Value). put (slice_cmp nat_cmp) q (sum_with (held q vs) c.args.value) vs) c.self.view_is)
    c.raise.ensures.value

pub returns-in-Some-clause-within : goal.returns-in-Some-clause-within
returns-in-Some-clause-within c =
    let q = c.args.symbol.now in
    let es = c.self.inside.sums.entries in
    on_ok c.raise.result
    (λ small h. ap are_within (ap values_in (c.get_mut.follows.holds c.raise.new.sum).0
    ∙ values-set es q c.in-Some.sum.now c.raise.new.sum c.get_mut.ensures.ordered (sym c.in-Some.ensures.value))
    ∙ within-put q c.raise.new.sum (values_in es) small (ap are_within c.self.view_is ∙ h))
    c.raise.ensures.within

pub returns-in-Some-clause-range : goal.returns-in-Some-clause-range
returns-in-Some-clause-range c =
    let q = c.args.symbol.now in
    let es = c.self.inside.sums.entries in
    let there : held q (values_in es) ≡ Some c.in-Some.sum.now = sym (held-values es q) ∙ sym c.in-Some.ensures.value in
    if_err _ _ c.raise.result
    (λ e fault range. ap (λ (vs : List Value). fits_with (held q vs) c.args.value) (sym c.self.view_is)
    ∙ ap (λ (o : Option Decimal). fits_with o c.args.value) there ∙ fault)
    c.raise.ensures.fault

pub returns-in_err-sum-clause-range : goal.returns-in_err-sum-clause-range
returns-in_err-sum-clause-range c =
    let q = c.args.symbol.now in
    let es = c.self.inside.sums.entries in
    let none : held q (values_in es) ≡ None = sym (held-values es q) ∙ sym c.in_default.ensures.value in
    let p = err_from_is_err_and c.from_residual.result c.from_residual.ensures.1 in
    rw p.1 (λ _. ap (λ (vs : List Value). fits_with (held q vs) c.args.value) (sym c.self.view_is)
    ∙ ap (λ (o : Option Decimal). fits_with o c.args.value) none ∙ c.in_err-sum.ensures.fault)

pub returns-clause-ok : goal.returns-clause-ok
returns-clause-ok c =
    let q = c.args.symbol.now in
    let es = c.self.inside.sums.entries in
    let none : held q (values_in es) ≡ None = sym (held-values es q) ∙ sym c.in_default.ensures.value in
    on_ok c.insert.result
    (λ e. e ∙ ap (λ (m : _). put (slice_cmp nat_cmp) q c.in_ok-sum.sum (values_in m.entries)) c.get_mut.follows.holds-at-none
    ∙ ap (λ (d : Decimal). put (slice_cmp nat_cmp) q d (values_in es)) (c.in_ok-sum.ensures.value ∙ ap (λ (o : Option Decimal). sum_with o c.args.value) (sym none))
    ∙ ap (λ (vs : List Value). put (slice_cmp nat_cmp) q (sum_with (held q vs) c.args.value) vs) c.self.view_is)
    c.insert.ensures.ok

pub returns-clause-within : goal.returns-clause-within
returns-clause-within c =
    let q = c.args.symbol.now in
    let es = c.self.inside.sums.entries in
    on_ok c.insert.result
    (λ e h. ap are_within (e ∙ ap (λ (m : _). put (slice_cmp nat_cmp) q c.in_ok-sum.sum (values_in m.entries)) c.get_mut.follows.holds-at-none)
    ∙ within-put q c.in_ok-sum.sum (values_in es) c.in_ok-sum.ensures.within (ap are_within c.self.view_is ∙ h))
    c.insert.ensures.ok
