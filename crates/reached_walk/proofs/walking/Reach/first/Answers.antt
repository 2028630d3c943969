use Rattle.std.proofs.Common.{List, drop, ap, ◌∙◌}
use Rattle.reached_walk.specs.declared.place.Spot.{Spot}
use Rattle.reached_walk.specs.Spots.{first_of}
use Rattle.reached_walk.proofs.walking.Reach.first.Goals as goal

pub returns : goal.returns
returns c = c.first_from.ensures ∙ ap (λ (xs : List Spot). first_of (drop c.args.self.now.at xs)) c.as_slice.ensures.value
