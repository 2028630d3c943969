use Rattle.std.proofs.Common.{◌≡◌, ◌∙◌, List, true, sym, ap, subst}
use Rattle.placed_sums.specs.Days.{rise}
use Rattle.placed_sums.specs.Placing.{with_txn, without_number}
use Rattle.placed_sums.specs.declared.on_day.OnDay.{OnDay}
use Rattle.placed_sums.proofs.Daily.{days_end, days_set}
use Rattle.placed_sums.proofs.days.Days.replaced.Goals as goal

pub places_with-requires : goal.places_with-requires
places_with-requires c = subst (λ (ps : List OnDay). rise ps ≡ true) (sym c.as_slice.ensures.value) c.self.invariant

pub returns-clause-replaced : goal.returns-clause-replaced
returns-clause-replaced c book days less =
    days_set c.args.self.now c.in_ok-places.places.items book c.args.number c.args.txn.now (subst (λ (ps : List OnDay). rise ps ≡ true) c.self.view_is c.self.invariant)
    (c.in_ok-places.ensures.places ∙ ap (λ (ps : List OnDay). with_txn c.args.number c.args.txn.now (without_number c.args.number ps)) (c.as_slice.ensures.value ∙ c.self.view_is)) days less

pub returns-clause-added : goal.returns-clause-added
returns-clause-added c book days last =
    days_end c.args.self.now c.in_ok-places.places.items book c.args.number c.args.txn.now (subst (λ (ps : List OnDay). rise ps ≡ true) c.self.view_is c.self.invariant)
    (c.in_ok-places.ensures.places ∙ ap (λ (ps : List OnDay). with_txn c.args.number c.args.txn.now (without_number c.args.number ps)) (c.as_slice.ensures.value ∙ c.self.view_is)) days last
