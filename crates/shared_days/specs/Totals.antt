-- The order of days is total.
use Rattle.std.specs.Cmp.{IsTotalOrder}
use Rattle.std.proofs.lemmas.Cmp.{nat_cmp_total, on_total}
use Rattle.shared_days.specs.declared.day_places.DayPlaces.{DayPlaces}
use Rattle.shared_days.specs.declared.day_places.Sought.{Sought}
use Rattle.shared_days.specs.Places.{day_cmp}

pub day_total : IsTotalOrder day_cmp
day_total = on_total (λ (d : DayPlaces). d.day.0) nat_cmp_total

-- a day that is looked for, with the places of another
abbrev pub day_sought : Sought → DayPlaces → DayPlaces
day_sought s d = record d { day = s.day }
