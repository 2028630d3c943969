use Rattle.std.proofs.Common.{◌-◌, ◌^◌}
use Rattle.placed_sums.specs.Days.{numbers_in, places_before}
use Rattle.shared_days.specs.Days.{numbers_or}
use Rattle.shared_days.specs.Places.{found_on}
use Rattle.shared_days.proofs.days.SharedDays.copy.Goals as goal

pub returns : goal.returns
returns c = λ day i. numbers_or (numbers_in (places_before day (2 ^ 64 - 1) (c.in_ok-made.ensures i))) (found_on day.0 (c.in_ok-changed.ensures i))
