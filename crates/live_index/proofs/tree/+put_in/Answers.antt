use Rattle.std.proofs.Common.{◌≡◌, ◌∷◌, ◌++◌, ap, subst, sym, ◌∙◌, rules}
use Rattle.std.specs.Arc.{arc_value}
use Rattle.std.specs.declared.cmp.Ordering.TheVariants.{Less, Equal, Greater}
use Rattle.std.specs.FinMap.Entries.{put}
use Rattle.live_index.specs.Cells.{IsOrdered, key_cmp}
use Rattle.live_index.specs.Trees.{cells_of}
use Rattle.live_index.proofs.Answered.{if-ok}
use Rattle.live_index.proofs.TreeLaws.{left-ordered, right-ordered, put-left, put-right, put-here}
use Rattle.live_index.proofs.tree.+put_in.Goals as goal

pub returns-in_ok-try_clone-in-Less : goal.returns-in_ok-try_clone-in-Less
returns-in_ok-try_clone-in-Less t c = λ ordered.
    let fork = c.deref-in-Less.result.now in
    let is : cells_of c.args.tree.now ≡ cells_of c.deref-in-Less.result.now.left ++ arc_value c.deref-in-Less.result.now.cell ∷ cells_of c.deref-in-Less.result.now.right = search rules in
    let order : key_cmp (arc_value c.deref-in-Less.result.now.cell).0 (arc_value c.args.cell).0 ≡ Less = search rules in
    let left : cells_of c.in_ok-shared-in-Less.field-0 ≡ cells_of c.deref-in-Less.result.now.left = search rules in
    let own : arc_value c.in_ok-try_clone-in-Less.field-0 ≡ arc_value c.deref-in-Less.result.now.cell = search rules in
    let right = c.in_ok-right-in-Less.ensures (right-ordered (cells_of fork.left) (arc_value fork.cell) (cells_of fork.right) (subst IsOrdered is ordered)) in
    if-ok c.balanced.result _ _ (λ new e. e ∙ (λ i. left i ++ own i ∷ right i) ∙ put-right (arc_value c.args.cell).0 (arc_value c.args.cell).1 (cells_of fork.left) (arc_value fork.cell) (cells_of fork.right) (subst IsOrdered is ordered) order ∙ ap (put key_cmp (arc_value c.args.cell).0 (arc_value c.args.cell).1) (sym is)) c.balanced.ensures

pub returns-in_ok-shared-in-Greater : goal.returns-in_ok-shared-in-Greater
returns-in_ok-shared-in-Greater t c = λ ordered.
    let fork = c.deref-in-Greater.result.now in
    let is : cells_of c.args.tree.now ≡ cells_of c.deref-in-Greater.result.now.left ++ arc_value c.deref-in-Greater.result.now.cell ∷ cells_of c.deref-in-Greater.result.now.right = search rules in
    let order : key_cmp (arc_value c.deref-in-Greater.result.now.cell).0 (arc_value c.args.cell).0 ≡ Greater = search rules in
    let left = c.in_ok-left-in-Greater.ensures (left-ordered (cells_of fork.left) (arc_value fork.cell) (cells_of fork.right) (subst IsOrdered is ordered)) in
    let own : arc_value c.in_ok-try_clone-in-Greater.field-0 ≡ arc_value c.deref-in-Greater.result.now.cell = search rules in
    let right : cells_of c.in_ok-shared-in-Greater.field-0 ≡ cells_of c.deref-in-Greater.result.now.right = search rules in
    if-ok c.balanced-in-Greater.result _ _ (λ new e. e ∙ (λ i. left i ++ own i ∷ right i) ∙ put-left (arc_value c.args.cell).0 (arc_value c.args.cell).1 (cells_of fork.left) (arc_value fork.cell) (cells_of fork.right) order ∙ ap (put key_cmp (arc_value c.args.cell).0 (arc_value c.args.cell).1) (sym is)) c.balanced-in-Greater.ensures

pub returns-in_ok-shared-in-Equal-2 : goal.returns-in_ok-shared-in-Equal-2
returns-in_ok-shared-in-Equal-2 t c = λ ordered.
    let fork = c.deref-in-Equal.result.now in
    let is : cells_of c.args.tree.now ≡ cells_of c.deref-in-Equal.result.now.left ++ arc_value c.deref-in-Equal.result.now.cell ∷ cells_of c.deref-in-Equal.result.now.right = search rules in
    let order : key_cmp (arc_value c.deref-in-Equal.result.now.cell).0 (arc_value c.args.cell).0 ≡ Equal = search rules in
    let left : cells_of c.in_ok-shared-in-Equal.field-0 ≡ cells_of c.deref-in-Equal.result.now.left = search rules in
    let right : cells_of c.in_ok-shared-in-Equal-2.field-0 ≡ cells_of c.deref-in-Equal.result.now.right = search rules in
    if-ok c.node-in-Equal.result _ _ (λ new e. e ∙ (λ i. left i ++ arc_value c.args.cell ∷ right i) ∙ put-here (arc_value c.args.cell) (cells_of fork.left) (arc_value fork.cell) (cells_of fork.right) (subst IsOrdered is ordered) order ∙ ap (put key_cmp (arc_value c.args.cell).0 (arc_value c.args.cell).1) (sym is)) c.node-in-Equal.ensures
