use Rattle.std.proofs.Common.{Option, ap, ◌∙◌}
use Rattle.reached_walk.specs.declared.place.Spot.{Spot}
use Rattle.reached_walk.specs.Notes.{earliest_of}
use Rattle.reached_walk.proofs.walking.Reach.nearest.Goals as goal

pub returns : goal.returns
returns c =
    c.earliest.ensures
    ∙ ap (earliest_of c.first-first.result) c.as_slice.ensures.value
    ∙ ap (λ (o : Option Spot). earliest_of o c.args.self.now.changes.items) c.first-first.ensures
