use Rattle.std.proofs.Common.{◌∙◌, ◌++◌, List, ap}
use Rattle.placed_sums.specs.Days.{rise}
use Rattle.placed_sums.specs.Placing.{with_txn}
use Rattle.placed_sums.specs.declared.on_day.OnDay.{OnDay}
use Rattle.placed_sums.proofs.days.push_txn.Goals as goal

pub put_txn-requires : goal.put_txn-requires
put_txn-requires c = ap rise c.clear.ensures.items

pub returns : goal.returns
returns c =
    c.in_ok-extend_from_slice.ensures.items
    ∙ ap (λ (ps : List OnDay). c.args.places.now.items ++ ps) (c.as_slice.ensures.value ∙ c.in_ok-put_txn.ensures.places ∙ ap (with_txn c.args.number c.args.txn.now) c.clear.ensures.items)
