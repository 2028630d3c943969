use Rattle.std.proofs.Common.{map, drop}
use Rattle.std.specs.Arc.{arc_value}
use Rattle.live_index.specs.Trees.{cells_of}
use Rattle.live_index.proofs.TreeLaws.{Adding}
use Rattle.live_index.proofs.tree.with_each.Given as goal

-- what is put in and what is left have the sums of both
abbrev pub invariant-loop-cell : goal.invariant-loop-cell
invariant-loop-cell l = Adding (cells_of l.tree) (map arc_value l.cells) (cells_of l.all) (map arc_value (drop l.cell-index l.cells))
