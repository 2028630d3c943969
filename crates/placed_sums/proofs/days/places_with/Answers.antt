use Rattle.std.proofs.Common.{◌≡◌, ◌∙◌, ◌==◌, not, List, true, sym, ap, subst}
use Rattle.placed_sums.specs.Days.{rise}
use Rattle.placed_sums.specs.Placing.{with_txn, without_number}
use Rattle.placed_sums.specs.declared.on_day.OnDay.{OnDay}
use Rattle.placed_sums.proofs.Orders.{rise_part}
use Rattle.placed_sums.proofs.days.places_with.Goals as goal

pub put_txn-requires : goal.put_txn-requires
put_txn-requires c =
    subst (λ (ps : List OnDay). rise ps ≡ true) (sym (c.leave_out.ensures ∙ ap (without_number c.args.number) c.in_ok-new.ensures.items))
    (rise_part (λ place. not (place.number == c.args.number)) c.args.places.now c.requires)

pub returns-clause-places : goal.returns-clause-places
returns-clause-places c =
    c.in_ok-put_txn.ensures.places ∙ ap (with_txn c.args.number c.args.txn.now) (c.leave_out.ensures ∙ ap (without_number c.args.number) c.in_ok-new.ensures.items)
