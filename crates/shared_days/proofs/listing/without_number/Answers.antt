use Rattle.std.proofs.Common.{◌≡◌, ap, ◌∙◌, rules}
use Rattle.placed_sums.specs.Days.{numbers_in}
use Rattle.placed_sums.specs.Placing.{without_number}
use Rattle.shared_days.proofs.Fronts.{left-in}
use Rattle.shared_days.proofs.listing.without_number.Goals as goal

pub returns : goal.returns
returns c =
    let gone : c.leave_out.new.places.items ≡ without_number c.args.number c.args.places.now = search rules in
    ap numbers_in gone ∙ left-in c.args.number c.args.places.now
