use Rattle.std.proofs.Common.{◌≡◌, List, ◌∷◌, ◌++◌, Some, None, ap, ◌∙◌, rules}
use Rattle.std.specs.Arc.{arc_value}
use Rattle.std.specs.Option.{option_copied}
use Rattle.std.specs.Ordering.{is_lt}
use Rattle.std.specs.declared.cmp.Ordering.TheVariants.{Less, Equal, Greater}
use Rattle.shared_set.specs.Trees.{items_of}
use Rattle.shared_set.proofs.Sides.{above-some, above-none, above-right}
use Rattle.shared_set.proofs.tree.+find_above.Goals as goal

pub returns-in-Some : goal.returns-in-Some
returns-in-Some g t c = λ ordered.
    let is : items_of c.args.tree.now ≡ items_of c.deref-in-Less.result.now.left ++ arc_value c.deref-in-Less.result.now.item ∷ items_of c.deref-in-Less.result.now.right = search rules in
    above-some g.T.Ranked.rank (g.Q.Seek.side c.args.sought.now) (g.met.Q.Seek.upward c.args.sought.now)
    (items_of c.args.tree.now) (items_of c.deref-in-Less.result.now.left) (arc_value c.deref-in-Less.result.now.item) (items_of c.deref-in-Less.result.now.right) c.in-Some.item.now is c.in-Some.ensures ordered

pub returns-in-None : goal.returns-in-None
returns-in-None g t c = λ ordered.
    let is : items_of c.args.tree.now ≡ items_of c.deref-in-Less.result.now.left ++ arc_value c.deref-in-Less.result.now.item ∷ items_of c.deref-in-Less.result.now.right = search rules in
    let order : g.Q.Seek.side c.args.sought.now (arc_value c.deref-in-Less.result.now.item) ≡ Less = search rules in
    let own : c.deref-in-None-2.result.now ≡ arc_value c.deref-in-Less.result.now.item = search rules in
    above-none g.T.Ranked.rank (g.Q.Seek.side c.args.sought.now) (g.met.Q.Seek.upward c.args.sought.now)
    (items_of c.args.tree.now) (items_of c.deref-in-Less.result.now.left) (arc_value c.deref-in-Less.result.now.item) (items_of c.deref-in-Less.result.now.right) c.deref-in-None-2.result.now is order c.in-None.ensures own ordered

pub returns-in-Equal : goal.returns-in-Equal
returns-in-Equal g t c = λ ordered.
    let is : items_of c.args.tree.now ≡ items_of c.deref-in-Equal.result.now.left ++ arc_value c.deref-in-Equal.result.now.item ∷ items_of c.deref-in-Equal.result.now.right = search rules in
    let order : g.Q.Seek.side c.args.sought.now (arc_value c.deref-in-Equal.result.now.item) ≡ Equal = search rules in
    above-right g.T.Ranked.rank (g.Q.Seek.side c.args.sought.now) (g.met.Q.Seek.upward c.args.sought.now)
    (items_of c.args.tree.now) (items_of c.deref-in-Equal.result.now.left) (arc_value c.deref-in-Equal.result.now.item) (items_of c.deref-in-Equal.result.now.right) (option_copied c.find_above-in-Equal.result) is (ap is_lt order) c.find_above-in-Equal.ensures ordered

pub returns-in-Greater : goal.returns-in-Greater
returns-in-Greater g t c = λ ordered.
    let is : items_of c.args.tree.now ≡ items_of c.deref-in-Greater.result.now.left ++ arc_value c.deref-in-Greater.result.now.item ∷ items_of c.deref-in-Greater.result.now.right = search rules in
    let order : g.Q.Seek.side c.args.sought.now (arc_value c.deref-in-Greater.result.now.item) ≡ Greater = search rules in
    above-right g.T.Ranked.rank (g.Q.Seek.side c.args.sought.now) (g.met.Q.Seek.upward c.args.sought.now)
    (items_of c.args.tree.now) (items_of c.deref-in-Greater.result.now.left) (arc_value c.deref-in-Greater.result.now.item) (items_of c.deref-in-Greater.result.now.right) (option_copied c.find_above-in-Greater.result) is (ap is_lt order) c.find_above-in-Greater.ensures ordered
