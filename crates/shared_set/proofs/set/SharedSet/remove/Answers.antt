use Rattle.std.proofs.Common.{◌≡◌, List, sym, subst}
use Rattle.shared_set.specs.Sorted.{Rises}
use Rattle.shared_set.specs.Trees.{items_of}
use Rattle.shared_set.proofs.Sides.{gone-rises}
use Rattle.shared_set.proofs.set.SharedSet.remove.Goals as goal

pub invariant_of-self : goal.invariant_of-self
invariant_of-self g c =
    let P : List g.row.T.Denot → Type 0 = λ items. Rises g.T.Ranked.rank items in
    subst P (sym (c.in_ok-self-inside.ensures c.self.invariant)) (gone-rises g.met.T.Ranked.total c.args.item.now (items_of c.self.inside.tree) c.self.invariant)
