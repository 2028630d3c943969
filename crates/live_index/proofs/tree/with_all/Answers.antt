use Rattle.std.proofs.Common.{◌≡◌, List, [], map, sym, subst, rules}
use Rattle.std.specs.Arc.{arc_value}
use Rattle.live_index.specs.Cells.{Cell, AreJoined}
use Rattle.live_index.specs.Trees.{cells_of}
use Rattle.live_index.proofs.Answered.{if-ok}
use Rattle.live_index.proofs.TreeLaws.{joined-alone}
use Rattle.live_index.proofs.tree.with_all.Goals as goal

pub returns-in-Leaf : goal.returns-in-Leaf
returns-in-Leaf c =
    let none : cells_of c.args.tree.now ≡ [] = search rules in
    if-ok c.tree_of.result _ _ (λ new e. joined-alone (cells_of c.args.tree.now) (map arc_value c.args.cells.now) (cells_of new) none e c.requires.cells) c.tree_of.ensures
