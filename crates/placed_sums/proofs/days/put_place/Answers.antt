use Rattle.std.proofs.Common.{◌≡◌, ◌∙◌, ◌≤◌, ℕ, Bool, List, true, false, length, slice_get, refl, sym, ap, subst, arith}
use Rattle.placed_sums.specs.Days.{rise}
use Rattle.placed_sums.specs.Placing.{below_count, is_found}
use Rattle.placed_sums.specs.declared.on_day.OnDay.{OnDay}
use Rattle.placed_sums.proofs.Orders.{found_at, inside_at, put_at, rise_at, rise_with}
use Rattle.placed_sums.proofs.days.put_place.Goals as goal

pub first_from-at-requires : goal.first_from-at-requires
first_from-at-requires c = rise_at c.as_slice.result.now c.args.places.now.items c.as_slice.ensures.value c.requires

pub insert-requires : goal.insert-requires
insert-requires c =
    subst (λ (k : ℕ). c.first_from-at.result ≤ k) (sym c.args.places.now.ok.0)
    (inside_at c.args.place c.as_slice.result.now c.args.places.now.items c.first_from-at.result c.as_slice.ensures.value c.first_from-at.ensures)

pub returns-then-is_found-clause-places : goal.returns-then-is_found-clause-places
returns-then-is_found-clause-places c =
    found_at c.args.place c.as_slice.result.now c.as_slice-2.result.now c.args.places.now.items c.first_from-at.result c.as_slice.ensures.value c.as_slice-2.ensures.value c.first_from-at.ensures (sym c.is_found.ensures ∙ c.if-is_found.true)

pub returns-clause-places : goal.returns-clause-places
returns-clause-places c =
    c.in_ok-insert.ensures.items
    ∙ put_at c.args.place c.as_slice.result.now c.as_slice-2.result.now c.args.places.now.items c.first_from-at.result c.as_slice.ensures.value c.as_slice-2.ensures.value c.first_from-at.ensures (sym c.is_found.ensures ∙ c.if-is_found.false)

pub returns-clause-rise : goal.returns-clause-rise
returns-clause-rise c =
    ap rise
    (c.in_ok-insert.ensures.items
    ∙ put_at c.args.place c.as_slice.result.now c.as_slice-2.result.now c.args.places.now.items c.first_from-at.result c.as_slice.ensures.value c.as_slice-2.ensures.value c.first_from-at.ensures (sym c.is_found.ensures ∙ c.if-is_found.false))
    ∙ rise_with c.args.place c.args.places.now.items c.requires
