use Rattle.std.proofs.Common.{◌≡◌, List, sym, subst}
use Rattle.std.specs.Arc.{arc_value}
use Rattle.shared_set.specs.Sorted.{Rises}
use Rattle.shared_set.specs.Trees.{items_of}
use Rattle.shared_set.proofs.Sides.{put-rises}
use Rattle.shared_set.proofs.set.SharedSet.put.Goals as goal

pub invariant_of-self : goal.invariant_of-self
invariant_of-self g c =
    let P : List g.row.T.Denot → Type 0 = λ items. Rises g.T.Ranked.rank items in
    subst P (sym (c.in_ok-self-inside.ensures c.self.invariant)) (put-rises g.met.T.Ranked.total (items_of c.self.inside.tree) (arc_value c.in_ok-item.item) c.self.invariant)
