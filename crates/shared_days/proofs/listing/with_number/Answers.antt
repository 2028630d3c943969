use Rattle.std.proofs.Common.{◌≡◌, ◌++◌, ◌∷◌, [], refl, rules}
use Rattle.placed_sums.specs.declared.on_day.OnDay.{OnDay}
use Rattle.shared_days.proofs.Fronts.{with-made}
use Rattle.shared_days.proofs.listing.with_number.Goals as goal

pub returns : goal.returns
returns c =
    let place : OnDay = record { day = c.args.day; number = c.args.number } in
    let made : c.extend_from_slice.new.self.items ≡ c.front_of-front.result.now ++ (record { day = c.args.day; number = c.args.number }) ∷ [] ++ c.past_number-rest.result.now = search rules in
    with-made c.args.number c.lower_count-count.result c.args.places.now c.front_of-front.result.now c.back_of-back.result.now c.past_number-rest.result.now c.extend_from_slice.new.self.items place
    c.lower_count-count.ensures.count c.front_of-front.ensures c.back_of-back.ensures c.past_number-rest.ensures refl made
