use Rattle.std.proofs.Common.{◌≡◌, List, ◌∷◌, ◌++◌, Some, None, ap, ◌∙◌, rules}
use Rattle.std.specs.Arc.{arc_value}
use Rattle.std.specs.Option.{option_copied}
use Rattle.std.specs.Ordering.{is_lt}
use Rattle.std.specs.declared.cmp.Ordering.TheVariants.{Less, Equal, Greater}
use Rattle.shared_set.specs.Trees.{items_of}
use Rattle.shared_set.proofs.Sides.{equal-less, equal-here, equal-greater}
use Rattle.shared_set.proofs.tree.+find_equal.Goals as goal

pub returns-in-Less : goal.returns-in-Less
returns-in-Less g t c = λ ordered.
    let is : items_of c.args.tree.now ≡ items_of c.deref-in-Less.result.now.left ++ arc_value c.deref-in-Less.result.now.item ∷ items_of c.deref-in-Less.result.now.right = search rules in
    let order : g.Q.Seek.side c.args.sought.now (arc_value c.deref-in-Less.result.now.item) ≡ Less = search rules in
    equal-less g.T.Ranked.rank (g.Q.Seek.side c.args.sought.now) (g.met.Q.Seek.upward c.args.sought.now)
    (items_of c.args.tree.now) (items_of c.deref-in-Less.result.now.left) (arc_value c.deref-in-Less.result.now.item) (items_of c.deref-in-Less.result.now.right) (option_copied c.find_equal.result) is order c.find_equal.ensures ordered

pub returns-in-Equal : goal.returns-in-Equal
returns-in-Equal g t c = λ ordered.
    let is : items_of c.args.tree.now ≡ items_of c.deref-in-Equal.result.now.left ++ arc_value c.deref-in-Equal.result.now.item ∷ items_of c.deref-in-Equal.result.now.right = search rules in
    let order : g.Q.Seek.side c.args.sought.now (arc_value c.deref-in-Equal.result.now.item) ≡ Equal = search rules in
    let own : c.deref-in-Equal-2.result.now ≡ arc_value c.deref-in-Equal.result.now.item = search rules in
    equal-here g.T.Ranked.rank (g.Q.Seek.side c.args.sought.now) (g.met.Q.Seek.upward c.args.sought.now)
    (items_of c.args.tree.now) (items_of c.deref-in-Equal.result.now.left) (arc_value c.deref-in-Equal.result.now.item) (items_of c.deref-in-Equal.result.now.right) c.deref-in-Equal-2.result.now is order own ordered

pub returns-in-Greater : goal.returns-in-Greater
returns-in-Greater g t c = λ ordered.
    let is : items_of c.args.tree.now ≡ items_of c.deref-in-Greater.result.now.left ++ arc_value c.deref-in-Greater.result.now.item ∷ items_of c.deref-in-Greater.result.now.right = search rules in
    let order : g.Q.Seek.side c.args.sought.now (arc_value c.deref-in-Greater.result.now.item) ≡ Greater = search rules in
    equal-greater g.T.Ranked.rank (g.Q.Seek.side c.args.sought.now) (g.met.Q.Seek.upward c.args.sought.now)
    (items_of c.args.tree.now) (items_of c.deref-in-Greater.result.now.left) (arc_value c.deref-in-Greater.result.now.item) (items_of c.deref-in-Greater.result.now.right) (option_copied c.find_equal-in-Greater.result) is order c.find_equal-in-Greater.ensures ordered
