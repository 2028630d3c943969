-- The cells of a tree, from left to right.
use Rattle.std.specs.Prelude.{List, [], ◌∷◌, ◌++◌}
use Rattle.std.specs.Arc.{arc_value}
use Rattle.live_index.specs.Cells.{Cell}
use Rattle.live_index.specs.declared.tree.Tree.{Tree, Leaf, Fork'}

abbrev pub cells_of : Tree → List Cell
cells_of Leaf = []
cells_of (Fork' p left cell right height) = cells_of left ++ arc_value cell ∷ cells_of right
