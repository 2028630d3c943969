use Rattle.std.proofs.Common.{◌≤◌, ◌-◌, ◌^◌, List, length, ap, ◌∙◌, arith}
use Rattle.std.specs.Arc.{arc_value}
use Rattle.placed_sums.specs.declared.on_day.OnDay.{OnDay}
use Rattle.placed_sums.specs.Days.{numbers_in, places_before}
use Rattle.shared_days.specs.declared.day_places.DayPlaces.{DayPlaces}
use Rattle.shared_days.specs.Days.{numbers_or}
use Rattle.shared_days.specs.Places.{found_on}
use Rattle.shared_days.proofs.Numbers.{made-of}
use Rattle.shared_days.proofs.days.SharedDays.of.Goals as goal

pub returns : goal.returns
returns c = λ day.
    let few : length c.args.book.now ≤ 2 ^ 64 - 1 = omega arith in
    ap (λ (ds : List DayPlaces). numbers_or (numbers_in (places_before day (2 ^ 64 - 1) (arc_value c.in_ok-made.made))) (found_on day.0 ds)) c.new-changed.ensures
    ∙ ap (λ (ps : List OnDay). numbers_in (places_before day (2 ^ 64 - 1) ps)) c.in_ok-made.ensures.ok
    ∙ made-of day (2 ^ 64 - 1) c.in_ok-days.days c.args.book.now few c.in_ok-days.ensures
