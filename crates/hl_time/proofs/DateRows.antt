-- Written dates and near misses, worked out by hand from the forms.
use Rattle.std.proofs.Common.{◌≡◌, Some, None, Ok, Err, refl}
use Rattle.std.specs.Prelude.{codes}
use Rattle.hl_time.specs.Calendar.{day_number, days_of_years, days_of_months}
use Rattle.hl_time.specs.Date.{date_of, full_date, month_day, calendar_day, year_digits, year_value, part_length, part_value}

pub dates : (date_of (codes "2024-06-15") None ≡ Ok 739_052) × (date_of (codes "2024/6/15") None ≡ Ok 739_052)
    × (date_of (codes "2024.06.15") (Some 1999) ≡ Ok 739_052) × (date_of (codes "6/15") (Some 2024) ≡ Ok 739_052)
    × (date_of (codes "9999-12-31") None ≡ Ok 3_652_059) × (date_of (codes "0001-1-1") None ≡ Ok 1)
unfolding date_of full_date month_day calendar_day year_digits year_value part_length part_value day_number days_of_years days_of_months
dates = (refl, refl, refl, refl, refl, refl)

-- each with the place of its fault
pub near_misses : (date_of (codes "") None ≡ Err 0) × (date_of (codes "24-06-15") None ≡ Err 2)
    × (date_of (codes "6/15") None ≡ Err 1) × (date_of (codes "2024-06/15") None ≡ Err 7)
    × (date_of (codes "2024-06") None ≡ Err 7) × (date_of (codes "2024-06-") None ≡ Err 8)
    × (date_of (codes "2024-06-150") None ≡ Err 10) × (date_of (codes "20240-6-15") None ≡ Err 4)
    × (date_of (codes "2024_06-15") None ≡ Err 4) × (date_of (codes "2024-13-01") None ≡ Err 5)
    × (date_of (codes "2023-02-29") None ≡ Err 8) × (date_of (codes "0000-01-01") None ≡ Err 0)
    × (date_of (codes "2/30") (Some 2024) ≡ Err 2) × (date_of (codes "0/3") (Some 2024) ≡ Err 0)
unfolding date_of full_date month_day calendar_day year_digits year_value part_length part_value day_number days_of_years days_of_months
near_misses = (refl, refl, refl, refl, refl, refl, refl, refl, refl, refl, refl, refl, refl, refl)
