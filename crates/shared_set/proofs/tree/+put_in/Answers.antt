use Rattle.std.proofs.Common.{◌≡◌, List, ◌∷◌, ◌++◌, Some, None, ap, ◌∙◌, rules}
use Rattle.std.specs.Arc.{arc_value}
use Rattle.std.specs.Option.{option_copied}
use Rattle.std.specs.Ordering.{is_lt}
use Rattle.std.specs.declared.cmp.Ordering.TheVariants.{Less, Equal, Greater}
use Rattle.shared_set.specs.Trees.{items_of}
use Rattle.shared_set.proofs.Answered.{if-ok}
use Rattle.shared_set.proofs.Sides.{put-less, put-equal, put-greater}
use Rattle.shared_set.proofs.tree.+put_in.Goals as goal

pub returns-in_ok-try_clone-in-Less : goal.returns-in_ok-try_clone-in-Less
returns-in_ok-try_clone-in-Less g t c = λ ordered.
    let is : items_of c.args.tree.now ≡ items_of c.deref-in-Less.result.now.left ++ arc_value c.deref-in-Less.result.now.item ∷ items_of c.deref-in-Less.result.now.right = search rules in
    let order : g.T.Ranked.rank (arc_value c.deref-in-Less.result.now.item) (arc_value c.args.item) ≡ Less = search rules in
    let left : items_of c.in_ok-shared-in-Less.field-0 ≡ items_of c.deref-in-Less.result.now.left = search rules in
    let own : arc_value c.in_ok-try_clone-in-Less.field-0 ≡ arc_value c.deref-in-Less.result.now.item = search rules in
    if-ok c.balanced.result _ _ (λ new e. e ∙ put-less g.met.T.Ranked.total (items_of c.args.tree.now) (arc_value c.args.item) (items_of c.deref-in-Less.result.now.left) (arc_value c.deref-in-Less.result.now.item) (items_of c.deref-in-Less.result.now.right) (items_of c.in_ok-shared-in-Less.field-0) (arc_value c.in_ok-try_clone-in-Less.field-0) (items_of c.in_ok-right-in-Less.right) is order left own c.in_ok-right-in-Less.ensures ordered) c.balanced.ensures

pub returns-in_ok-shared-in-Greater : goal.returns-in_ok-shared-in-Greater
returns-in_ok-shared-in-Greater g t c = λ ordered.
    let is : items_of c.args.tree.now ≡ items_of c.deref-in-Greater.result.now.left ++ arc_value c.deref-in-Greater.result.now.item ∷ items_of c.deref-in-Greater.result.now.right = search rules in
    let order : g.T.Ranked.rank (arc_value c.deref-in-Greater.result.now.item) (arc_value c.args.item) ≡ Greater = search rules in
    let own : arc_value c.in_ok-try_clone-in-Greater.field-0 ≡ arc_value c.deref-in-Greater.result.now.item = search rules in
    let right : items_of c.in_ok-shared-in-Greater.field-0 ≡ items_of c.deref-in-Greater.result.now.right = search rules in
    if-ok c.balanced-in-Greater.result _ _ (λ new e. e ∙ put-greater g.met.T.Ranked.total (items_of c.args.tree.now) (arc_value c.args.item) (items_of c.deref-in-Greater.result.now.left) (arc_value c.deref-in-Greater.result.now.item) (items_of c.deref-in-Greater.result.now.right) (items_of c.in_ok-left-in-Greater.left) (arc_value c.in_ok-try_clone-in-Greater.field-0) (items_of c.in_ok-shared-in-Greater.field-0) is order c.in_ok-left-in-Greater.ensures own right ordered) c.balanced-in-Greater.ensures

pub returns-in_ok-shared-in-Equal-2 : goal.returns-in_ok-shared-in-Equal-2
returns-in_ok-shared-in-Equal-2 g t c = λ ordered.
    let is : items_of c.args.tree.now ≡ items_of c.deref-in-Equal.result.now.left ++ arc_value c.deref-in-Equal.result.now.item ∷ items_of c.deref-in-Equal.result.now.right = search rules in
    let order : g.T.Ranked.rank (arc_value c.deref-in-Equal.result.now.item) (arc_value c.args.item) ≡ Equal = search rules in
    let left : items_of c.in_ok-shared-in-Equal.field-0 ≡ items_of c.deref-in-Equal.result.now.left = search rules in
    let right : items_of c.in_ok-shared-in-Equal-2.field-0 ≡ items_of c.deref-in-Equal.result.now.right = search rules in
    if-ok c.node-in-Equal.result _ _ (λ new e. e ∙ put-equal g.met.T.Ranked.total (items_of c.args.tree.now) (arc_value c.args.item) (items_of c.deref-in-Equal.result.now.left) (arc_value c.deref-in-Equal.result.now.item) (items_of c.deref-in-Equal.result.now.right) (items_of c.in_ok-shared-in-Equal.field-0) (items_of c.in_ok-shared-in-Equal-2.field-0) is order left right ordered) c.node-in-Equal.ensures
