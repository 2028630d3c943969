use Rattle.std.proofs.Common.{◌≡◌, ap, ◌∙◌, rules}
use Rattle.std.specs.Arc.{arc_value}
use Rattle.placed_sums.specs.Days.{numbers_in, places_before}
use Rattle.shared_days.specs.Days.{numbers_or}
use Rattle.shared_days.proofs.changing.places_on.Goals as goal

pub returns-in-Some : goal.returns-in-Some
returns-in-Some c =
    ap numbers_in c.as_slice.ensures.value
    ∙ ap (numbers_or (numbers_in (places_before c.args.day 18446744073709551615 (arc_value c.args.days.now.made)))) c.in-Some.ensures.item

pub returns-in-None : goal.returns-in-None
returns-in-None c =
    let is : c.made_before.result.now ≡ places_before c.args.day 18446744073709551615 (arc_value c.args.days.now.made) = search rules in
    ap numbers_in is
    ∙ ap (numbers_or (numbers_in (places_before c.args.day 18446744073709551615 (arc_value c.args.days.now.made)))) c.in-None.ensures.item
