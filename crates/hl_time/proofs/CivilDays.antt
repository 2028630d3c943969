-- The day number against that of `jiff`, whose day 0 is 1970-01-01.
use Rattle.std.proofs.Common.{◌≡◌, ℕ, zero, suc, ◌+◌, ◌-◌, ◌≤◌, refl, ap, arith, ℤ, pos, negsuc, ◌+ℤ◌, ◌-ℤ◌, to_z, of_z, w32, unsigned_abs}
use Rattle.std.proofs.lemmas.Int.{ints}
use Rattle.jiff_core.specs.Calendar as jiff
use Rattle.jiff_core.proofs.CalendarLemmas.{day_count-epoch, day_count-next_year, day_count-day_of_year, days_from_civil-day_count, day_count-lt_year, weekday_number-parts}
use Rattle.jiff_core.proofs.SignedLemmas.{signed_arith}
use Rattle.std.proofs.Common.{true}
use Rattle.std.proofs.lemmas.Bool.Decides.{nat_tests}
use Rattle.hl_time.proofs.Inverse.{Parts, Only, day_only, day_of_parts}
use Rattle.hl_time.specs.Calendar.{has_day, weekday_of, days_of_years, days_of_months, day_number, month_length}

-- the months of a year have the same days
pub same_months : (year months : ℕ) → jiff.days_of_months (pos year) months ≡ days_of_months year months
unfolding jiff.days_of_months days_of_months
same_months year zero = refl
same_months year (suc months) = ap (λ n. n + month_length year (suc months)) (same_months year months)

-- and so have the years from year 1 on
pub same_years : (years : ℕ) → jiff.day_count (pos (suc years)) 1 1 ≡ jiff.day_count (pos 1) 1 1 + days_of_years years
unfolding days_of_years
same_years zero = omega arith
same_years (suc years) =
    omega (arith, signed_arith, day_count-next_year (pos (suc years)) (pos (suc (suc years))) (omega (arith, signed_arith)) (omega (arith, signed_arith)), same_years years)

years_before_epoch : days_of_years 1969 ≡ 719_162
unfolding days_of_years
years_before_epoch = refl

first_year : jiff.day_count (pos 1) 1 1 ≡ 3_652_791
first_year = omega (arith, day_count-epoch, same_years 1969, years_before_epoch)

-- a day's number is 719,163 above that of `jiff`
pub same_day : (year month day : ℕ) → 1 ≤ year → 1 ≤ day → pos (day_number year month day) ≡ jiff.days_from_civil (pos year) month day +ℤ pos 719_163
unfolding day_number
same_day zero month day h k = omega (arith, signed_arith)
same_day (suc years) month day h k =
    let back : suc years - 1 ≡ years = omega arith in
    rw back (omega (arith, signed_arith, days_from_civil-day_count (pos (suc years)) month day, day_count-day_of_year (pos (suc years)) month day k, same_years years, first_year, same_months (suc years) (month - 1)))

-- a date of `jiff` from year 1 on is one of ours
pub same_dates : (year month day : ℕ) → 1 ≤ year → jiff.IsDate (pos year) (pos month) (pos day) → has_day year month day ≡ true
same_dates year month day h d = grind (arith, nat_tests)

-- what a program computes of a day number of `jiff`
pub from_epoch : (z : ℤ) (day : ℕ) → jiff.IsEpochDay z → pos day ≡ z +ℤ pos 719_163 → unsigned_abs (to_z w32 (of_z w32 (to_z w32 (of_z w32 z) +ℤ pos 719_163))) ≡ day
from_epoch z day within is = omega (arith, ints)

pub at_least_its_day : (year month day : ℕ) → day ≤ day_number year month day
unfolding day_number
at_least_its_day year month day = omega arith

-- the date of `jiff` for a day from 0001-01-01 on is that of its number
pub from_jiff : (year : ℤ) (month day number : ℕ) → jiff.IsCivilDate year month day → 1 ≤ number → number ≤ 3_652_059 → jiff.days_from_civil year month day +ℤ pos 719_163 ≡ pos number → (year ≡ pos (unsigned_abs year)) × Only (unsigned_abs year) month day number
from_jiff (negsuc year) month day number has first last same =
    absurd (omega (arith, signed_arith, days_from_civil-day_count (negsuc year) month day, first_year, day_count-lt_year (negsuc year) month day (pos 1) 1 1 has (omega arith) (omega (arith, signed_arith))))
from_jiff (pos zero) month day number has first last same =
    absurd (omega (arith, signed_arith, days_from_civil-day_count (pos zero) month day, first_year, day_count-lt_year (pos zero) month day (pos 1) 1 1 has (omega arith) (omega (arith, signed_arith))))
from_jiff (pos (suc years)) month day number has first last same =
    let parts : Parts (suc years) month day = record {
      year_least = omega arith;
      year_most = omega (arith, signed_arith, has.0);
      month_least = has.1.0;
      month_most = has.1.1;
      day_least = has.2.0;
      day_most = has.2.1;
    } in
    let number_same : day_number (suc years) month day ≡ number = omega (arith, signed_arith, same_day (suc years) month day (omega arith) has.2.0) in
    (refl, rw number_same at (day_only (suc years) month day (day_of_parts (suc years) month day parts)))

-- and so is the day of the week
pub same_weekday : (day : ℕ) → 1 ≤ day → weekday_of day ≡ jiff.weekday_number (pos day -ℤ pos 719_163)
same_weekday day first =
    rw (weekday_number-parts (pos day -ℤ pos 719_163)) (omega (arith, signed_arith))
