use Rattle.std.proofs.Common.{List, drop, sym, ap, ◌∙◌}
use Rattle.reached_walk.specs.declared.place.Spot.{Spot}
use Rattle.reached_walk.specs.Spots.{waiting}
use Rattle.reached_walk.proofs.walking.Reach.past.Goals as goal

pub returns : goal.returns
returns c =
    ap (drop c.passed.result) (sym c.as_slice.ensures.value)
    ∙ c.passed.ensures
    ∙ ap (λ (xs : List Spot). waiting (drop c.args.self.now.at xs) c.args.spot) c.as_slice.ensures.value
