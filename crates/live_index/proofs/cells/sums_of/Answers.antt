use Rattle.std.proofs.Common.{Bor, ◌≡◌, List, map, subst}
use Rattle.std.specs.Arc.{arc_value}
use Rattle.std.specs.List.Sorted.{IsPermutation}
use Rattle.live_index.specs.declared.row.Row.{Row}
use Rattle.live_index.specs.Kept.{AreSums}
use Rattle.live_index.proofs.Answered.{if-ok}
use Rattle.live_index.proofs.SeriesLaws.{lent, sums-permuted}
use Rattle.live_index.proofs.cells.sums_of.Goals as goal

pub returns : goal.returns
returns c =
    if-ok c.sums_in_order.result _ _ (λ cells are.
    sums-permuted c.args.rows.now (lent c.in_ok-order.order.items) (map arc_value cells.items) c.in_ok-order.ensures
    (subst (λ (t : List (Bor Row)). AreSums (lent t) (map arc_value cells.items)) c.deref.ensures.value are))
    c.sums_in_order.ensures
