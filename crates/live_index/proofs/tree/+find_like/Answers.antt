use Rattle.std.proofs.Common.{◌≡◌, ◌∷◌, ◌++◌, ap, subst, sym, ◌∙◌, rules}
use Rattle.std.specs.Arc.{arc_value}
use Rattle.std.specs.declared.cmp.Ordering.TheVariants.{Less, Equal, Greater}
use Rattle.live_index.specs.Cells.{Cell, Key, IsOrdered, key_cmp, sums_of}
use Rattle.live_index.specs.Trees.{cells_of}
use Rattle.live_index.proofs.TreeLaws.{left-ordered, right-ordered, sums-left, sums-right, sums-here}
use Rattle.live_index.proofs.CellLaws.{key_same}
use Rattle.live_index.proofs.tree.+find_like.Goals as goal

pub returns-in-Less-clause-sums : goal.returns-in-Less-clause-sums
returns-in-Less-clause-sums t c = λ ordered.
    let key : Key = c.args.cell.now.0 in
    let fork = c.deref-in-Less.result.now in
    let is : cells_of c.args.tree.now ≡ cells_of c.deref-in-Less.result.now.left ++ arc_value c.deref-in-Less.result.now.cell ∷ cells_of c.deref-in-Less.result.now.right = search rules in
    let order : key_cmp (arc_value c.deref-in-Less.result.now.cell).0 (c.args.cell.now.0) ≡ Less = search rules in
    c.find_like.ensures.sums (right-ordered (cells_of fork.left) (arc_value fork.cell) (cells_of fork.right) (subst IsOrdered is ordered))
    ∙ sums-right key (cells_of fork.left) (arc_value fork.cell) (cells_of fork.right) (subst IsOrdered is ordered) order
    ∙ ap (sums_of key) (sym is)

pub returns-in-Greater-clause-sums : goal.returns-in-Greater-clause-sums
returns-in-Greater-clause-sums t c = λ ordered.
    let key : Key = c.args.cell.now.0 in
    let fork = c.deref-in-Greater.result.now in
    let is : cells_of c.args.tree.now ≡ cells_of c.deref-in-Greater.result.now.left ++ arc_value c.deref-in-Greater.result.now.cell ∷ cells_of c.deref-in-Greater.result.now.right = search rules in
    let order : key_cmp (arc_value c.deref-in-Greater.result.now.cell).0 (c.args.cell.now.0) ≡ Greater = search rules in
    c.find_like-in-Greater.ensures.sums (left-ordered (cells_of fork.left) (arc_value fork.cell) (cells_of fork.right) (subst IsOrdered is ordered))
    ∙ sums-left key (cells_of fork.left) (arc_value fork.cell) (cells_of fork.right) (subst IsOrdered is ordered) order
    ∙ ap (sums_of key) (sym is)

pub returns-in-Equal-clause-sums : goal.returns-in-Equal-clause-sums
returns-in-Equal-clause-sums t c = λ ordered.
    let key : Key = c.args.cell.now.0 in
    let fork = c.deref-in-Equal.result.now in
    let is : cells_of c.args.tree.now ≡ cells_of c.deref-in-Equal.result.now.left ++ arc_value c.deref-in-Equal.result.now.cell ∷ cells_of c.deref-in-Equal.result.now.right = search rules in
    let order : key_cmp (arc_value c.deref-in-Equal.result.now.cell).0 (c.args.cell.now.0) ≡ Equal = search rules in
    let own : c.deref-in-Equal-2.result.now ≡ arc_value c.deref-in-Equal.result.now.cell = search rules in
    ap (λ (e : Cell). e.1) own
    ∙ sums-here key (cells_of fork.left) (arc_value fork.cell) (cells_of fork.right) (subst IsOrdered is ordered) order
    ∙ ap (sums_of key) (sym is)

pub returns-in-Equal-clause-key : goal.returns-in-Equal-clause-key
returns-in-Equal-clause-key t c =
    let order : key_cmp (arc_value c.deref-in-Equal.result.now.cell).0 c.args.cell.now.0 ≡ Equal = search rules in
    let own : c.deref-in-Equal-2.result.now ≡ arc_value c.deref-in-Equal.result.now.cell = search rules in
    ap (λ (e : Cell). e.0) own ∙ key_same (arc_value c.deref-in-Equal.result.now.cell).0 c.args.cell.now.0 order
