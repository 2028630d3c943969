use Rattle.std.proofs.Common.{ℕ, take, ap, ◌∙◌}
use Rattle.shared_days.proofs.Fronts.{front-is}
use Rattle.shared_days.proofs.listing.lower_front.Goals as goal

pub returns : goal.returns
returns c =
    c.front_of.ensures
    ∙ ap (λ (k : ℕ). take k c.args.places.now) c.lower_count-count.ensures.count
    ∙ front-is c.args.number c.args.places.now
