use Rattle.std.proofs.Common.{◌≡◌, ◌∷◌, ◌++◌, ap, subst, sym, ◌∙◌, rules}
use Rattle.std.specs.Arc.{arc_value}
use Rattle.std.specs.declared.cmp.Ordering.TheVariants.{Less, Equal, Greater}
use Rattle.live_index.specs.Cells.{Cell, Key, IsOrdered, key_cmp, sums_of}
use Rattle.live_index.specs.Trees.{cells_of}
use Rattle.live_index.proofs.TreeLaws.{left-ordered, right-ordered, sums-left, sums-right, sums-here}
use Rattle.live_index.proofs.tree.+find.Goals as goal

pub returns-in-Less : goal.returns-in-Less
returns-in-Less t c = λ ordered.
    let key : Key = record { account = c.args.account.now; symbol = c.args.symbol.now; below = c.args.below } in
    let fork = c.deref-in-Less.result.now in
    let is : cells_of c.args.tree.now ≡ cells_of c.deref-in-Less.result.now.left ++ arc_value c.deref-in-Less.result.now.cell ∷ cells_of c.deref-in-Less.result.now.right = search rules in
    let order : key_cmp (arc_value c.deref-in-Less.result.now.cell).0 (record { account = c.args.account.now; symbol = c.args.symbol.now; below = c.args.below }) ≡ Less = search rules in
    c.find.ensures (right-ordered (cells_of fork.left) (arc_value fork.cell) (cells_of fork.right) (subst IsOrdered is ordered))
    ∙ sums-right key (cells_of fork.left) (arc_value fork.cell) (cells_of fork.right) (subst IsOrdered is ordered) order
    ∙ ap (sums_of key) (sym is)

pub returns-in-Greater : goal.returns-in-Greater
returns-in-Greater t c = λ ordered.
    let key : Key = record { account = c.args.account.now; symbol = c.args.symbol.now; below = c.args.below } in
    let fork = c.deref-in-Greater.result.now in
    let is : cells_of c.args.tree.now ≡ cells_of c.deref-in-Greater.result.now.left ++ arc_value c.deref-in-Greater.result.now.cell ∷ cells_of c.deref-in-Greater.result.now.right = search rules in
    let order : key_cmp (arc_value c.deref-in-Greater.result.now.cell).0 (record { account = c.args.account.now; symbol = c.args.symbol.now; below = c.args.below }) ≡ Greater = search rules in
    c.find-in-Greater.ensures (left-ordered (cells_of fork.left) (arc_value fork.cell) (cells_of fork.right) (subst IsOrdered is ordered))
    ∙ sums-left key (cells_of fork.left) (arc_value fork.cell) (cells_of fork.right) (subst IsOrdered is ordered) order
    ∙ ap (sums_of key) (sym is)

pub returns-in-Equal : goal.returns-in-Equal
returns-in-Equal t c = λ ordered.
    let key : Key = record { account = c.args.account.now; symbol = c.args.symbol.now; below = c.args.below } in
    let fork = c.deref-in-Equal.result.now in
    let is : cells_of c.args.tree.now ≡ cells_of c.deref-in-Equal.result.now.left ++ arc_value c.deref-in-Equal.result.now.cell ∷ cells_of c.deref-in-Equal.result.now.right = search rules in
    let order : key_cmp (arc_value c.deref-in-Equal.result.now.cell).0 (record { account = c.args.account.now; symbol = c.args.symbol.now; below = c.args.below }) ≡ Equal = search rules in
    let own : c.deref-in-Equal-2.result.now ≡ arc_value c.deref-in-Equal.result.now.cell = search rules in
    ap (λ (e : Cell). e.1) own
    ∙ sums-here key (cells_of fork.left) (arc_value fork.cell) (cells_of fork.right) (subst IsOrdered is ordered) order
    ∙ ap (sums_of key) (sym is)
