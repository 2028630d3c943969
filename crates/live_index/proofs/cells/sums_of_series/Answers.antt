use Rattle.std.proofs.Common.{◌≡◌, map, subst, sym}
use Rattle.std.specs.Arc.{arc_value}
use Rattle.live_index.specs.Cells.{AreOfRows}
use Rattle.live_index.proofs.Answered.{if-ok}
use Rattle.live_index.proofs.SeriesLaws.{lent, lent-first, sums-series}
use Rattle.live_index.proofs.cells.sums_of_series.Goals as goal

pub returns : goal.returns
returns c =
    let rows = lent c.args.rows.now in
    if-ok c.cells_of.result _ _ (λ cells added.
    sums-series rows c.index-rows-0.result.now (arc_value c.in_ok-shared.shared) (map arc_value cells.items) c.requires.series (lent-first c.args.rows.now c.index-rows-0.result c.requires.some c.index-rows-0.is)
    (subst (AreOfRows rows) (sym c.in_ok-shared.ensures.ok) c.in_ok-sums.ensures) c.cells_of.ensures.few added)
    c.cells_of.ensures.added
