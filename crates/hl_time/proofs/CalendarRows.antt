-- Days that calendars and almanacs give, so that a wrong rule does not check.
use Rattle.std.proofs.Common.{◌≡◌, ◌+◌, [], ◌∷◌, map, true, false, refl}
use Rattle.hl_time.specs.Calendar.{is_leap_year, day_number, days_of_years, days_of_months, has_day, weekday_of}

pub leap_years : map is_leap_year (1900 ∷ 2000 ∷ 2023 ∷ 2024 ∷ 2100 ∷ 4 ∷ []) ≡ false ∷ true ∷ false ∷ true ∷ false ∷ true ∷ []
leap_years = refl

-- four hundred years have 146,097 days
pub long_count : days_of_years 400 ≡ 146_097
unfolding days_of_years
long_count = refl

pub known_days : (day_number 1 1 1 ≡ 1) × (day_number 2000 2 29 ≡ 730_179) × (day_number 1970 1 1 ≡ 719_163)
    × (day_number 2024 6 15 ≡ 739_052) × (day_number 9999 12 31 ≡ 3_652_059)
    × (day_number 1900 2 28 + 1 ≡ day_number 1900 3 1)
unfolding day_number days_of_years days_of_months
known_days = (refl, refl, refl, refl, refl, refl)

pub missing_days : (has_day 1900 2 29 ≡ false) × (has_day 2024 2 29 ≡ true) × (has_day 2023 2 29 ≡ false) × (has_day 0 1 1 ≡ false) × (has_day 10000 1 1 ≡ false) × (has_day 2024 13 1 ≡ false) × (has_day 2024 4 31 ≡ false)
missing_days = (refl, refl, refl, refl, refl, refl, refl)

-- 0001-01-01 was a Monday, 1970-01-01 a Thursday, and 2024-06-15 a Saturday
pub known_weekdays : map weekday_of (1 ∷ 719_163 ∷ 739_052 ∷ []) ≡ 0 ∷ 3 ∷ 5 ∷ []
known_weekdays = refl
