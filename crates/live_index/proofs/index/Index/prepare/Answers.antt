use Rattle.std.proofs.Common.{◌≡◌, ◌++◌, List, map, ap, subst, sym}
use Rattle.std.specs.Arc.{arc_value}
use Rattle.live_index.specs.declared.row.Row.{Row}
use Rattle.live_index.specs.Cells.{Cell, AreJoined}
use Rattle.live_index.specs.Kept.{IsKept}
use Rattle.live_index.specs.Puts.{rows_put}
use Rattle.live_index.specs.Rows.{TurnoverFits}
use Rattle.live_index.specs.Standing.{standing}
use Rattle.live_index.specs.Trees.{cells_of}
use Rattle.live_index.proofs.KeptLaws.{sums-both}
use Rattle.live_index.proofs.index.Index.prepare.Goals as goal

pub invariant_of-result : goal.invariant_of-result
invariant_of-result c =
    let rows : List Row = c.args.rows.now in
    let cells : List Cell = cells_of c.self.inside.cells in
    let same : map arc_value c.deref.result.now ≡ map arc_value c.in_ok-sums.sums.items = ap (map arc_value) c.deref.ensures.value in
    let P : List Cell → Type 0 = λ t. AreJoined cells t (cells_of c.in_ok-cells.cells) in
    let Q : List Row → Type 0 = λ rs. TurnoverFits (standing (rs ++ rows)) in
    let R : List Row → Type 0 = λ rs. IsKept rs (cells_of c.in_ok-cells.cells) in
    subst R (sym c.with_all-2.ensures) (record {
      sums = sums-both (rows_put c.self.inside.puts) rows cells (map arc_value c.in_ok-sums.sums.items) (cells_of c.in_ok-cells.cells) c.self.invariant.sums c.in_ok-sums.ensures (subst P same c.in_ok-cells.ensures);
      fits = subst Q (sym c.self.view_is) c.requires;
    })
