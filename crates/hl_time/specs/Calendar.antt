-- The calendar: the Gregorian rules for every year from 1 on, and days numbered from 0001-01-01, which is day 1.
use Rattle.std.specs.Prelude.{ℕ, zero, suc, ◌+◌, ◌-◌, ◌/◌, ◌%◌, ◌≤◌, Bool, true, false, not, ◌&&◌, ◌||◌, ◌==◌, nat_lt, nat_le, if◌then◌else◌}

-- every fourth year, but of the centuries only every fourth
abbrev pub is_leap_year : ℕ → Bool
is_leap_year year = (year % 4 == 0) && (not (year % 100 == 0) || (year % 400 == 0))

-- the days of a year
abbrev pub year_length : ℕ → ℕ
year_length year = if is_leap_year year then 366 else 365

-- the days of a month: thirty have April, June, September and November
abbrev pub month_length : ℕ → ℕ → ℕ
month_length year month =
    if month == 2 then (if is_leap_year year then 29 else 28)
    else (if (month == 4) || (month == 6) || (month == 9) || (month == 11) then 30 else 31)

-- the days of the first years, from year 1 on
unfoldable pub days_of_years : ℕ → ℕ
days_of_years zero = 0
days_of_years (suc years) = days_of_years years + year_length (suc years)

-- the days of the first months of a year
unfoldable pub days_of_months : ℕ → ℕ → ℕ
days_of_months year zero = 0
days_of_months year (suc months) = days_of_months year months + month_length year (suc months)

-- the number of a day: the days of the years before, of the months before in its year, and its day in the month
unfoldable pub day_number : ℕ → ℕ → ℕ → ℕ
day_number year month day = days_of_years (year - 1) + days_of_months year (month - 1) + day

-- a year that has days here
abbrev pub has_year : ℕ → Bool
has_year year = nat_le 1 year && nat_le year 9999

abbrev pub has_month : ℕ → Bool
has_month month = nat_le 1 month && nat_le month 12

-- the calendar has this day
abbrev pub has_day : ℕ → ℕ → ℕ → Bool
has_day year month day =
    has_year year && has_month month && (nat_le 1 day && nat_le day (month_length year month))

-- the last day, 9999-12-31
abbrev pub last_day : ℕ
last_day = 3652059

-- the number of a day from 0001-01-01 to 9999-12-31
abbrev pub IsDay : ℕ → Type 0
IsDay day = (1 ≤ day) × (day ≤ last_day)

-- the greatest number up to a bound that passes a test, 0 where none does
unfoldable pub greatest : (ℕ → Bool) → ℕ → ℕ
greatest passes zero = 0
greatest passes (suc bound) = elim (passes (suc bound)) [ true ↦ suc bound | false ↦ greatest passes bound ]

-- the years that end before a day, of which each has 365 days at least
unfoldable pub years_before : ℕ → ℕ
years_before day = greatest (λ years. nat_lt (days_of_years years) day) ((day - 1) / 365)

-- the place of a day in its year, from 1
abbrev pub ordinal_of : ℕ → ℕ
ordinal_of day = day - days_of_years (years_before day)

-- the months of its year that end before a day
unfoldable pub months_before : ℕ → ℕ
months_before day =
    greatest (λ months. nat_lt (days_of_months (years_before day + 1) months) (ordinal_of day)) 11

-- year, month and day of the month of a day number
unfoldable pub year_of : ℕ → ℕ
year_of day = years_before day + 1

unfoldable pub month_of : ℕ → ℕ
month_of day = months_before day + 1

unfoldable pub day_of_month : ℕ → ℕ
day_of_month day = ordinal_of day - days_of_months (years_before day + 1) (months_before day)

-- 0 for Monday, which 0001-01-01 was, and 6 for Sunday
abbrev pub weekday_of : ℕ → ℕ
weekday_of day = (day - 1) % 7

-- the end of all days, exclusive
abbrev pub day_end : ℕ
day_end = 3652060
