use Rattle.std.proofs.Common.{◌≡◌, ◌∙◌, Bool, List, true, sym, ap, subst}
use Rattle.placed_sums.specs.Days.{places_before, rise}
use Rattle.placed_sums.specs.declared.on_day.OnDay.{OnDay}
use Rattle.placed_sums.proofs.days.Days.before.Goals as goal

pub places_between-requires : goal.places_between-requires
places_between-requires c = subst (λ (ps : List OnDay). rise ps ≡ true) (sym c.as_slice.ensures.value) c.self.invariant

pub returns : goal.returns
returns c = c.places_between.ensures ∙ ap (places_before c.args.day c.args.number) (c.as_slice.ensures.value ∙ c.self.view_is)
