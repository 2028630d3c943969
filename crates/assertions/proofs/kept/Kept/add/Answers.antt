use Rattle.std.proofs.Common.{List, [], refl, sym, ap, ◌∙◌, subst}
use Rattle.book.specs.Entries.{held}
use Rattle.book.specs.Mixed.{fits_with}
use Rattle.entry_balance.specs.Values.{Value}
use Rattle.entry_balance.specs.Tally.{sums_of}
use Rattle.entry_balance.proofs.Adding.{on_ok, if_err, share_range}
use Rattle.assertions.specs.Kept.{Keeping, IsKept}
use Rattle.assertions.proofs.Keeping.{added_none, place_within, sums-there, added_one}
use Rattle.assertions.proofs.kept.Kept.add.Goals as goal

pub returns-in-Some-clause-ok : goal.returns-in-Some-clause-ok
returns-in-Some-clause-ok c = on_ok c.add_at.result (λ added values kept.
    let name = c.args.name.now in
    let s = c.args.symbol.now in
    let v = c.args.value in
    let j = c.in-Some.place in
    let k = subst (IsKept values) (sym c.self.view_is) kept in
    let at = sym c.place_of.ensures ∙ c.in-Some.is in
    added_one values _ name s v k j at _ refl refl (added (sums_of (values name)) (place_within values _ name s v k j at) (sums-there values _ name s v k j at [])))
    c.add_at.ensures.ok

pub returns-in-Some-clause-range : goal.returns-in-Some-clause-range
returns-in-Some-clause-range c = if_err _ _ c.add_at.result (λ e told range values kept.
    let name = c.args.name.now in
    let s = c.args.symbol.now in
    let v = c.args.value in
    let j = c.in-Some.place in
    let k = subst (IsKept values) (sym c.self.view_is) kept in
    let at = sym c.place_of.ensures ∙ c.in-Some.is in
    share_range (values name) s v (sums_of (values name)) refl
    (ap (λ (es : List Value). fits_with (held s es) v) (sym (sums-there values _ name s v k j at [])) ∙ told range))
    c.add_at.ensures.range

pub returns-in-None-clause-ok : goal.returns-in-None-clause-ok
returns-in-None-clause-ok c = λ values kept.
    added_none values c.args.self.now c.args.name.now c.args.symbol.now c.args.value kept
    (ap (λ (k : Keeping). held c.args.name.now k.1) (sym c.self.view_is) ∙ sym c.place_of.ensures ∙ c.in-None.is)
