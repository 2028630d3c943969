use Rattle.std.proofs.Common.{◌≡◌, ◌∙◌, ◌≤◌, ℕ, length, sym, ap, subst}
use Rattle.std.specs.Prelude.{slice_range}
use Rattle.placed_sums.specs.Placing.{below_count}
use Rattle.placed_sums.specs.declared.on_day.OnDay.{OnDay}
use Rattle.placed_sums.proofs.Orders.{count_within, range_is, starts_first}
use Rattle.placed_sums.proofs.days.places_between.Goals as goal

pub first_from-first-requires : goal.first_from-first-requires
first_from-first-requires c = c.requires

pub first_from-end-requires : goal.first_from-end-requires
first_from-end-requires c = c.requires

pub between-requires-clause-order : goal.between-requires-clause-order
between-requires-clause-order c =
    subst (λ (n : ℕ). n ≤ c.first_from-end.result) (sym c.first_from-first.ensures)
    (subst (λ (n : ℕ). below_count (record { day = c.args.day; number = 0 }) c.args.places.now ≤ n) (sym c.first_from-end.ensures) (starts_first c.args.day c.args.number c.args.places.now))

pub between-requires-clause-within : goal.between-requires-clause-within
between-requires-clause-within c =
    subst (λ (n : ℕ). n ≤ length c.args.places.now) (sym c.first_from-end.ensures) (count_within (record { day = c.args.day; number = c.args.number }) c.args.places.now)

pub returns : goal.returns
returns c =
    c.between.ensures
    ∙ ap (λ (n : ℕ). slice_range c.args.places.now n c.first_from-end.result) c.first_from-first.ensures
    ∙ ap (λ (n : ℕ). slice_range c.args.places.now (below_count (record { day = c.args.day; number = 0 }) c.args.places.now) n) c.first_from-end.ensures
    ∙ range_is c.args.day c.args.number c.args.places.now c.requires
