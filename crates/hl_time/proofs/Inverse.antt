-- Day numbers and dates are inverse to each other.
use Rattle.std.proofs.Common.{◌≡◌, ℕ, zero, suc, ◌+◌, ◌-◌, ◌*◌, ◌/◌, ◌<◌, ◌≤◌, inl, inr, Bool, true, false, nat_lt, cond, refl, ap, arith}
use Rattle.std.proofs.lemmas.Bool.{cases_order, cases_eq}
use Rattle.std.proofs.lemmas.Bool.Decides.{nat_tests}
use Rattle.hl_time.specs.Calendar.{days_of_years, days_of_months, day_number, month_length, year_length, is_leap_year, has_day, IsDay, last_day, greatest, years_before, months_before, year_of, month_of, day_of_month, ordinal_of}

passes-at : (passes : ℕ → Bool) (bound : ℕ) (b : Bool) → passes (suc bound) ≡ b → passes (greatest passes bound) ≡ true → passes (elim b [ true ↦ suc bound | false ↦ greatest passes bound ]) ≡ true
passes-at passes bound true here below = here
passes-at passes bound false here below = below

pub greatest-passes : (passes : ℕ → Bool) (bound : ℕ) → passes 0 ≡ true → passes (greatest passes bound) ≡ true
unfolding greatest
greatest-passes passes zero none = none
greatest-passes passes (suc bound) none = passes-at passes bound (passes (suc bound)) refl (greatest-passes passes bound none)

fails-above : (passes : ℕ → Bool) (bound k : ℕ) (b : Bool) → passes (suc bound) ≡ b → (greatest passes bound < k → k ≤ bound → passes k ≡ false) → elim b [ true ↦ suc bound | false ↦ greatest passes bound ] < k → k ≤ suc bound → passes k ≡ false
fails-above passes bound k true here below high within = absurd (omega arith)
fails-above passes bound k false here below high within =
    elim (cases_eq k (suc bound)) [ inl same ↦ rw same here | inr other ↦ below high (omega arith) ]

pub greatest-above : (passes : ℕ → Bool) (bound k : ℕ) → greatest passes bound < k → k ≤ bound → passes k ≡ false
unfolding greatest
greatest-above passes zero k above within = absurd (omega arith)
greatest-above passes (suc bound) k above within = fails-above passes bound k (passes (suc bound)) refl (greatest-above passes bound k) above within

pub greatest-within : (passes : ℕ → Bool) (bound : ℕ) → greatest passes bound ≤ bound
unfolding greatest
greatest-within passes zero = omega arith
greatest-within passes (suc bound) =
    elim (passes (suc bound)) as (λ b. elim b [ true ↦ suc bound | false ↦ greatest passes bound ] ≤ suc bound) [ true ↦ omega arith | false ↦ omega (arith, greatest-within passes bound) ]

-- years
pub year_length_bounds : (year : ℕ) → (365 ≤ year_length year) × (year_length year ≤ 366)
year_length_bounds year = grind arith

pub days_of_years_next : (years : ℕ) → days_of_years (suc years) ≡ days_of_years years + year_length (suc years)
unfolding days_of_years
days_of_years_next years = refl

pub days_of_years_none : days_of_years 0 ≡ 0
unfolding days_of_years
days_of_years_none = refl

pub days_of_years_least : (years : ℕ) → 365 * years ≤ days_of_years years
days_of_years_least zero = omega arith
days_of_years_least (suc years) = omega (arith, days_of_years_least years, days_of_years_next years, year_length_bounds (suc years))

pub days_of_years_mono : (years later : ℕ) → years ≤ later → days_of_years years ≤ days_of_years later
days_of_years_mono years zero h = let same : years ≡ 0 = omega arith in rw same (omega arith)
days_of_years_mono years (suc later) h =
    elim (cases_eq years (suc later)) [ inl same ↦ rw same (omega arith) | inr other ↦ omega (arith, days_of_years_mono years later (omega arith), days_of_years_next later) ]

pub days_of_all_years : days_of_years 9999 ≡ 3_652_059
unfolding days_of_years
days_of_all_years = refl

-- the year of a day begins before it, and doesn't end before it
pub year_found : (day : ℕ) → 1 ≤ day → (days_of_years (years_before day) < day) × (day ≤ days_of_years (suc (years_before day)))
unfolding years_before
year_found day h =
    let passes = λ (years : ℕ). nat_lt (days_of_years years) day in
    let bound = (day - 1) / 365 in
    let none : nat_lt (days_of_years 0) day ≡ true = rw days_of_years_none (grind (arith, nat_tests)) in
    let here : nat_lt (days_of_years (greatest passes bound)) day ≡ true = greatest-passes passes bound none in
    let above : suc (greatest passes bound) ≤ bound → nat_lt (days_of_years (suc (greatest passes bound))) day ≡ false = greatest-above passes bound (suc (greatest passes bound)) (omega arith) in
    grind (arith, nat_tests, here, above, days_of_years_least (suc (greatest passes bound)))

pub year_only : (years day : ℕ) → days_of_years years < day → day ≤ days_of_years (suc years) → years_before day ≡ years
year_only years day low high =
    let found = year_found day (omega arith) in
    elim (cases_order (years_before day) years) [
      | inl same ↦ same
      | inr (inl less) ↦ absurd (omega (arith, found.0, found.1, days_of_years_mono (suc (years_before day)) years (omega arith)))
      | inr (inr more) ↦ absurd (omega (arith, found.0, found.1, days_of_years_mono (suc years) (years_before day) (omega arith)))
    ]

-- months
pub month_length_bounds : (year month : ℕ) → (28 ≤ month_length year month) × (month_length year month ≤ 31)
month_length_bounds year month = grind arith

pub days_of_months_next : (year months : ℕ) → days_of_months year (suc months) ≡ days_of_months year months + month_length year (suc months)
unfolding days_of_months
days_of_months_next year months = refl

pub days_of_months_none : (year : ℕ) → days_of_months year 0 ≡ 0
unfolding days_of_months
days_of_months_none year = refl

-- the months make the year
pub days_of_all_months : (year : ℕ) → days_of_months year 12 ≡ year_length year
unfolding days_of_months
days_of_all_months year = elim (is_leap_year year) as (λ leap. 0 + 31 + cond leap 29 28 + 31 + 30 + 31 + 30 + 31 + 31 + 30 + 31 + 30 + 31 ≡ cond leap 366 365) [ true ↦ refl | false ↦ refl ]

pub days_of_months_mono : (year months later : ℕ) → months ≤ later → days_of_months year months ≤ days_of_months year later
days_of_months_mono year months zero h = let same : months ≡ 0 = omega arith in rw same (omega arith)
days_of_months_mono year months (suc later) h =
    elim (cases_eq months (suc later)) [ inl same ↦ rw same (omega arith) | inr other ↦ omega (arith, days_of_months_mono year months later (omega arith), days_of_months_next year later) ]

-- the place of a day in its year
pub ordinal_found : (day : ℕ) → 1 ≤ day → (1 ≤ ordinal_of day) × (ordinal_of day ≤ year_length (suc (years_before day))) × (days_of_years (years_before day) + ordinal_of day ≡ day)
ordinal_found day h = omega (arith, (year_found day h).0, (year_found day h).1, days_of_years_next (years_before day))

pub month_found : (day : ℕ) → 1 ≤ day → (days_of_months (years_before day + 1) (months_before day) < ordinal_of day) × (ordinal_of day ≤ days_of_months (years_before day + 1) (suc (months_before day))) × (months_before day ≤ 11)
unfolding months_before
month_found day h =
    let year = years_before day + 1 in
    let passes = λ (months : ℕ). nat_lt (days_of_months year months) (ordinal_of day) in
    let found = ordinal_found day h in
    let same_year : suc (years_before day) ≡ year = omega arith in
    let none : nat_lt (days_of_months year 0) (ordinal_of day) ≡ true = rw days_of_months_none (grind (arith, nat_tests, found.0)) in
    let here : nat_lt (days_of_months year (greatest passes 11)) (ordinal_of day) ≡ true = greatest-passes passes 11 none in
    let within : greatest passes 11 ≤ 11 = greatest-within passes 11 in
    let above : suc (greatest passes 11) ≤ 11 → nat_lt (days_of_months year (suc (greatest passes 11))) (ordinal_of day) ≡ false = greatest-above passes 11 (suc (greatest passes 11)) (omega arith) in
    let all : ordinal_of day ≤ days_of_months year 12 = rw (days_of_all_months year) (rw (← same_year) found.1) in
    grind (arith, nat_tests, here, within, above, all)

pub month_only : (day months : ℕ) → 1 ≤ day → days_of_months (years_before day + 1) months < ordinal_of day → ordinal_of day ≤ days_of_months (years_before day + 1) (suc months) → months_before day ≡ months
month_only day months first low high =
    let found = month_found day first in
    elim (cases_order (months_before day) months) [
      | inl same ↦ same
      | inr (inl less) ↦ absurd (omega (arith, found.0, found.1, days_of_months_mono (years_before day + 1) (suc (months_before day)) months (omega arith)))
      | inr (inr more) ↦ absurd (omega (arith, found.0, found.1, days_of_months_mono (years_before day + 1) (suc months) (months_before day) (omega arith)))
    ]

-- what the test of a day means
pub record Parts (year month day : ℕ) : Type 0 where
  pub year_least : 1 ≤ year
  pub year_most : year ≤ 9999
  pub month_least : 1 ≤ month
  pub month_most : month ≤ 12
  pub day_least : 1 ≤ day
  pub day_most : day ≤ month_length year month

pub parts_of_day : (year month day : ℕ) → has_day year month day ≡ true → Parts year month day
parts_of_day year month day h = record {
  year_least = grind (arith, nat_tests);
  year_most = grind (arith, nat_tests);
  month_least = grind (arith, nat_tests);
  month_most = grind (arith, nat_tests);
  day_least = grind (arith, nat_tests);
  day_most = grind (arith, nat_tests);
}

pub day_of_parts : (year month day : ℕ) → Parts year month day → has_day year month day ≡ true
day_of_parts year month day h = grind (arith, nat_tests, h.year_least, h.year_most, h.month_least, h.month_most, h.day_least, h.day_most)

-- a date of the calendar is that of its number
pub record Only (year month day number : ℕ) : Type 0 where
  pub year_same : year_of number ≡ year
  pub month_same : month_of number ≡ month
  pub day_same : day_of_month number ≡ day

only : (years months day number : ℕ) → suc months ≤ 12 → 1 ≤ day → day ≤ month_length (suc years) (suc months) → number ≡ days_of_years years + days_of_months (suc years) months + day → Only (suc years) (suc months) day number
unfolding year_of month_of day_of_month
only years months day number within first most is =
    let ends : days_of_months (suc years) (suc months) ≤ year_length (suc years) = rw (← days_of_all_months (suc years)) (days_of_months_mono (suc years) (suc months) 12 within) in
    let year : years_before number ≡ years = year_only years number (omega arith) (omega (arith, ends, days_of_years_next years, days_of_months_next (suc years) months)) in
    let next : years_before number + 1 ≡ suc years = omega (arith, year) in
    let ordinal : ordinal_of number ≡ days_of_months (suc years) months + day = rw year (omega arith) in
    let month : months_before number ≡ months = month_only number months (omega arith) (rw (next, ordinal) (omega arith)) (rw (next, ordinal) (omega (arith, days_of_months_next (suc years) months))) in
    record {
      year_same = omega (arith, year);
      month_same = omega (arith, month);
      day_same = rw (next, month) (omega (arith, ordinal));
    }

pub day_only : (year month day : ℕ) → has_day year month day ≡ true → Only year month day (day_number year month day)
unfolding day_number
day_only zero month day h = absurd (omega (arith, (parts_of_day zero month day h).year_least))
day_only (suc years) zero day h = absurd (omega (arith, (parts_of_day (suc years) zero day h).month_least))
day_only (suc years) (suc months) day h =
    let parts = parts_of_day (suc years) (suc months) day h in
    let year_back : suc years - 1 ≡ years = omega arith in
    let month_back : suc months - 1 ≡ months = omega arith in
    only years months day _ parts.month_most parts.day_least parts.day_most (rw (year_back, month_back) refl)

-- and each number is that of its date
pub record Found (number : ℕ) : Type 0 where
  pub has : has_day (year_of number) (month_of number) (day_of_month number) ≡ true
  pub same : day_number (year_of number) (month_of number) (day_of_month number) ≡ number

year_within : (number : ℕ) → number ≤ last_day → 1 ≤ number → years_before number < 9999
year_within number within first =
    elim (cases_order (years_before number) 9999) [
      | inl same ↦ absurd (omega (arith, (year_found number first).0, days_of_all_years, ap days_of_years same))
      | inr (inl less) ↦ less
      | inr (inr more) ↦ absurd (omega (arith, (year_found number first).0, days_of_all_years, days_of_years_mono 9999 (years_before number) (omega arith)))
    ]

pub day_found : (number : ℕ) → IsDay number → Found number
unfolding year_of month_of day_of_month day_number
day_found number within =
    let years = years_before number in
    let months = months_before number in
    let month = month_found number within.0 in
    let ordinal = ordinal_found number within.0 in
    let length = days_of_months_next (years + 1) months in
    let next : suc months ≡ months + 1 = omega arith in
    let year_back : years + 1 - 1 ≡ years = omega arith in
    let month_back : months + 1 - 1 ≡ months = omega arith in
    let ends : days_of_months (years + 1) (suc months) ≡ days_of_months (years + 1) months + month_length (years + 1) (months + 1) = rw (← next) length in
    record {
      has = day_of_parts (years + 1) (months + 1) (ordinal_of number - days_of_months (years + 1) months) (record {
        year_least = omega arith;
        year_most = omega (arith, year_within number within.1 within.0);
        month_least = omega arith;
        month_most = omega (arith, month.2);
        day_least = omega (arith, month.0);
        day_most = omega (arith, month.1, ends);
      });
      same = rw (year_back, month_back) (omega (arith, month.0, ordinal.2));
    }

-- the number of a date is that of a day
pub number_within : (year month day : ℕ) → has_day year month day ≡ true → IsDay (day_number year month day)
unfolding day_number
number_within zero month day h = absurd (omega (arith, (parts_of_day zero month day h).year_least))
number_within (suc years) zero day h = absurd (omega (arith, (parts_of_day (suc years) zero day h).month_least))
number_within (suc years) (suc months) day h =
    let parts = parts_of_day (suc years) (suc months) day h in
    let ends : days_of_months (suc years) (suc months) ≤ year_length (suc years) = rw (← days_of_all_months (suc years)) (days_of_months_mono (suc years) (suc months) 12 parts.month_most) in
    let year_back : suc years - 1 ≡ years = omega arith in
    let month_back : suc months - 1 ≡ months = omega arith in
    rw (year_back, month_back) (omega (arith, parts.day_least, parts.day_most, ends, days_of_months_next (suc years) months, days_of_years_next years, days_of_years_mono (suc years) 9999 parts.year_most, days_of_all_years))
