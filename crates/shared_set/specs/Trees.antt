-- The items of a tree, from left to right.
use Rattle.std.specs.Prelude.{List, [], ◌∷◌, ◌++◌}
use Rattle.std.specs.Arc.{arc_value}
use Rattle.shared_set.specs.declared.tree.Tree.{Tree, Leaf, Fork'}

abbrev pub items_of : {T : Type 0} → Tree T → List T
items_of Leaf = []
items_of (Fork' p left item right height) = items_of left ++ arc_value item ∷ items_of right
