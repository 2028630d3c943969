-- Units follow each other without a gap, and each day lies in one.
use Rattle.std.proofs.Common.{◌≡◌, ℕ, zero, suc, ◌+◌, ◌-◌, ◌*◌, ◌/◌, ◌%◌, ◌<◌, ◌≤◌, inl, inr, refl, arith}
use Rattle.std.proofs.lemmas.Bool.{cases_order, cases_eq}
use Rattle.hl_time.specs.Calendar.{weekday_of, days_of_years, days_of_months, day_number, month_length, years_before, months_before, year_of, month_of}
use Rattle.hl_time.specs.Units.{month_start, month_index, unit_start, unit_of}
use Rattle.hl_time.specs.declared.spans.Unit as declared
use Rattle.hl_time.specs.declared.spans.Unit.TheVariants as units
use Rattle.hl_time.proofs.Inverse.{days_of_years_next, days_of_all_months, month_length_bounds, days_of_months_next, days_of_months_none, month_found, ordinal_found, days_of_all_years}

-- a month begins after the years and months before it
pub month_start_parts : (years months : ℕ) → months < 12 → month_start (12 * years + months) ≡ days_of_years years + days_of_months (suc years) months + 1
unfolding month_start day_number
month_start_parts years months h =
    let year : (12 * years + months) / 12 ≡ years = omega arith in
    let month : (12 * years + months) % 12 ≡ months = omega arith in
    let next : years + 1 ≡ suc years = omega arith in
    let year_back : suc years - 1 ≡ years = omega arith in
    let month_back : months + 1 - 1 ≡ months = omega arith in
    rw (year, month, next, year_back, month_back)

-- the next month begins after its days
pub month_start_next : (years months : ℕ) → months < 12 → month_start (12 * years + months + 1) ≡ month_start (12 * years + months) + month_length (suc years) (suc months)
month_start_next years months h =
    elim (cases_eq months 11) [
      | inl last ↦
          (let to : 12 * years + months + 1 ≡ 12 * suc years + 0 = omega arith in
          let all = days_of_all_months (suc years) in
          let step = days_of_months_next (suc years) 11 in
          rw (to, month_start_parts (suc years) 0 (omega arith), month_start_parts years months h, last) (omega (arith, days_of_years_next years, days_of_months_none (suc (suc years)), all, step)))
      | inr other ↦
          (let to : 12 * years + months + 1 ≡ 12 * years + suc months = omega arith in
          rw (to, month_start_parts years (suc months) (omega arith), month_start_parts years months h) (omega (arith, days_of_months_next (suc years) months)))
    ]

pub month_start_step : (months : ℕ) → (month_start months + 28 ≤ month_start (months + 1)) × (month_start (months + 1) ≤ month_start months + 31)
month_start_step months =
    let parts : months ≡ 12 * (months / 12) + months % 12 = omega arith in
    let next = month_start_next (months / 12) (months % 12) (omega arith) in
    let step = rw (← parts) at next in
    omega (arith, step, month_length_bounds (suc (months / 12)) (suc (months % 12)))

pub month_start_mono : (months later : ℕ) → months ≤ later → month_start months + (later - months) ≤ month_start later
month_start_mono months zero h = let same : months ≡ 0 = omega arith in rw same (omega arith)
month_start_mono months (suc later) h =
    let next : later + 1 ≡ suc later = omega arith in
    let step = rw next at (month_start_step later) in
    elim (cases_eq months (suc later)) [ inl same ↦ rw same (omega arith) | inr other ↦ omega (arith, step.0, month_start_mono months later (omega arith)) ]

pub first_month : month_start 0 ≡ 1
unfolding month_start day_number days_of_years days_of_months
first_month = refl

-- 10000-01-01
pub month_after_all : month_start 119_988 ≡ 3_652_060
month_after_all = omega (arith, month_start_parts 9999 0 (omega arith), days_of_all_years, days_of_months_none 10000)

month_index_parts : (day : ℕ) → month_index day ≡ 12 * years_before day + months_before day
unfolding month_index year_of month_of
month_index_parts day = omega arith

pub month_holds : (day : ℕ) → 1 ≤ day → (month_start (month_index day) ≤ day) × (day < month_start (month_index day + 1))
month_holds day first =
    let month = month_found day first in
    let ordinal = ordinal_found day first in
    let next : years_before day + 1 ≡ suc (years_before day) = omega arith in
    let low = rw next at month.0 in
    let high = rw next at month.1 in
    rw (month_index_parts day, month_start_next (years_before day) (months_before day) (omega (arith, month.2)), month_start_parts (years_before day) (months_before day) (omega (arith, month.2)))
    (omega (arith, low, high, ordinal.2, days_of_months_next (suc (years_before day)) (months_before day)))

-- a later unit begins later
pub unit_start_mono : (unit : declared.Unit) (index later : ℕ) → index ≤ later → unit_start unit index + (later - index) ≤ unit_start unit later
unfolding unit_start
unit_start_mono units.Day index later h = omega arith
unit_start_mono units.Week index later h = omega arith
unit_start_mono units.Month index later h = month_start_mono index later h
unit_start_mono units.Quarter index later h = omega (arith, month_start_mono (3 * index) (3 * later) (omega arith))
unit_start_mono units.Year index later h = omega (arith, month_start_mono (12 * index) (12 * later) (omega arith))

first_unit : (unit : declared.Unit) → unit_start unit 0 ≡ 1
unfolding unit_start
first_unit units.Day = omega arith
first_unit units.Week = omega arith
first_unit units.Month = first_month
first_unit units.Quarter = first_month
first_unit units.Year = first_month

pub unit_start_least : (unit : declared.Unit) (index : ℕ) → index + 1 ≤ unit_start unit index
unit_start_least unit index = omega (arith, unit_start_mono unit 0 index (omega arith), first_unit unit)

-- a day lies in its unit
pub unit_holds : (unit : declared.Unit) (day : ℕ) → 1 ≤ day → (unit_start unit (unit_of unit day) ≤ day) × (day < unit_start unit (unit_of unit day + 1))
unfolding unit_start unit_of
unit_holds units.Day day first = omega arith
unit_holds units.Week day first = omega arith
unit_holds units.Month day first = month_holds day first
unit_holds units.Quarter day first =
    let holds = month_holds day first in
    omega (arith, holds.0, holds.1, month_start_mono (3 * (month_index day / 3)) (month_index day) (omega arith), month_start_mono (month_index day + 1) (3 * (month_index day / 3 + 1)) (omega arith))
unit_holds units.Year day first =
    let holds = month_holds day first in
    omega (arith, holds.0, holds.1, month_start_mono (12 * (month_index day / 12)) (month_index day) (omega arith), month_start_mono (month_index day + 1) (12 * (month_index day / 12 + 1)) (omega arith))

-- and in no other
pub unit_only : (unit : declared.Unit) (day index : ℕ) → 1 ≤ day → unit_start unit index ≤ day → day < unit_start unit (index + 1) → unit_of unit day ≡ index
unit_only unit day index first low high =
    let holds = unit_holds unit day first in
    elim (cases_order (unit_of unit day) index) [
      | inl same ↦ same
      | inr (inl less) ↦ absurd (omega (arith, holds.0, holds.1, unit_start_mono unit (unit_of unit day + 1) index (omega arith)))
      | inr (inr more) ↦ absurd (omega (arith, holds.0, holds.1, unit_start_mono unit (index + 1) (unit_of unit day) (omega arith)))
    ]

-- a day of a month follows the month's first
pub day_of_its_month : (months day : ℕ) → day_number (months / 12 + 1) (months % 12 + 1) day + 1 ≡ month_start months + day
unfolding month_start day_number
day_of_its_month months day = omega arith

-- the next unit begins later
pub unit_start_next : (unit : declared.Unit) (index : ℕ) → unit_start unit index < unit_start unit (index + 1)
unit_start_next unit index = omega (arith, unit_start_mono unit index (index + 1) (omega arith))

-- each unit begins in itself, and a week on a Monday
pub unit_of_start : (unit : declared.Unit) (index : ℕ) → unit_of unit (unit_start unit index) ≡ index
unit_of_start unit index =
    unit_only unit (unit_start unit index) index (omega (arith, unit_start_least unit index)) (omega arith) (unit_start_next unit index)

pub week_begins_on_monday : (index : ℕ) → weekday_of (unit_start units.Week index) ≡ 0
unfolding unit_start
week_begins_on_monday index = omega arith
