use Rattle.std.proofs.Common.{◌+◌, ◌<◌, List, map, length, drop, subst, rules}
use Rattle.std.specs.Arc.{arc_value}
use Rattle.live_index.specs.Cells.{Cell}
use Rattle.live_index.specs.Trees.{cells_of}
use Rattle.live_index.proofs.TreeLaws.{Adding, add-more}
use Rattle.live_index.proofs.WalkLaws.{rest-at}
use Rattle.live_index.proofs.tree.with_each.Goals as goal

pub loop-cell-preserved : goal.loop-cell-preserved
loop-cell-preserved c =
    let i = c.loop-cell.cell-index in
    let inside : c.loop-cell.cell-index < length c.args.cells.now = search rules in
    let rest = rest-at arc_value c.args.cells.now i c.cell-item.result inside c.cell-item.is in
    let tree : List Cell = cells_of c.args.tree.now in
    let cells : List Cell = map arc_value c.args.cells.now in
    let P : List Cell → Type 0 = λ t. Adding tree cells (cells_of c.loop-cell.all) t in
    add-more tree cells (cells_of c.loop-cell.all) (cells_of c.in_ok-all-2.all) (arc_value c.cell-item.result) (map arc_value (drop (i + 1) c.args.cells.now)) c.in_ok-all-2.ensures (subst P rest c.loop-cell.invariant)
