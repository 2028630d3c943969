use Rattle.std.proofs.Common.{◌≡◌, ◌-◌, ◌^◌, rules}
use Rattle.std.specs.Arc.{arc_value}
use Rattle.std.specs.BTreeSet.{replace_key}
use Rattle.placed_sums.specs.Days.{numbers_in, places_before}
use Rattle.shared_days.specs.Places.{day_cmp}
use Rattle.shared_days.proofs.Changes.{put-is}
use Rattle.shared_days.proofs.changing.put_places.Goals as goal

pub returns : goal.returns
returns c = λ other.
    let made : c.put.new.self ≡ replace_key day_cmp c.args.days.now.changed (record { day = c.args.day; places = c.args.places }) = search rules in
    put-is (numbers_in (places_before other (2 ^ 64 - 1) (arc_value c.args.days.now.made))) c.args.days.now.changed c.put.new.self (record { day = c.args.day; places = c.args.places }) other.0 made
