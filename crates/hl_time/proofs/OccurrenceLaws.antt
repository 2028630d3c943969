-- Months on from a day.
use Rattle.std.proofs.Common.{◌≡◌, ℕ, ◌+◌, ◌/◌, ◌%◌, ◌<◌, ◌≤◌, min, Some, None, if◌then◌else◌, refl, sym, arith}
use Rattle.std.proofs.lemmas.Bool.Decides.{nat_tests}
use Rattle.hl_time.specs.Calendar.{day_number, year_of, month_of, day_of_month, month_length, has_day, IsDay, last_day}
use Rattle.hl_time.specs.Units.{month_index, months_on, day_within}
use Rattle.hl_time.specs.declared.day.Day.{Day}
use Rattle.hl_time.proofs.Inverse.{day_found, parts_of_day, day_of_parts, month_length_bounds, number_within, Parts}
use Rattle.hl_time.proofs.UnitLaws.{month_start_mono, month_after_all, day_of_its_month}

none_past : (day : ℕ) → last_day < day → day_within day ≡ None
unfolding day_within
none_past day past = grind (arith, nat_tests)

some_within : (day : ℕ) → day ≤ last_day → day_within day ≡ Some (record { 0 = day })
unfolding day_within
some_within day within = grind (arith, nat_tests)

least_day : (day : ℕ) → IsDay day → 1 ≤ day_of_month day
least_day day within = (parts_of_day (year_of day) (month_of day) (day_of_month day) (day_found day within).has).day_least

-- no day is left after the last month
pub past_months : (day months : ℕ) → IsDay day → 119_988 ≤ month_index day + months → None ≡ day_within (months_on day months)
unfolding months_on
past_months day months within past =
    let index = month_index day + months in
    let there = min (day_of_month day) (month_length (index / 12 + 1) (index % 12 + 1)) in
    sym (none_past _ (omega (arith, day_of_its_month index there, month_start_mono 119_988 index past, month_after_all, least_day day within, month_length_bounds (index / 12 + 1) (index % 12 + 1))))

-- before it there is one
pub found_months : (day months year month there : ℕ) → IsDay day → month_index day + months < 119_988 → year ≡ (month_index day + months) / 12 + 1 → month ≡ (month_index day + months) % 12 + 1 → there ≡ min (day_of_month day) (month_length year month) → (if has_day year month there then Some (let d : Day = record { 0 = day_number year month there } in d) else None) ≡ day_within (months_on day months)
unfolding months_on
found_months day months year month there within before at_year at_month at_day =
    let parts : Parts year month there = record {
      year_least = omega arith;
      year_most = omega arith;
      month_least = omega arith;
      month_most = omega arith;
      day_least = omega (arith, least_day day within, month_length_bounds year month);
      day_most = omega arith;
    } in
    let has = day_of_parts year month there parts in
    let same : day_number year month there ≡ months_on day months = rw (← at_year, ← at_month, ← at_day) refl in
    rw has (rw same (sym (some_within (months_on day months) (rw same at (number_within year month there has).1))))
