use Rattle.std.proofs.Common.{◌≡◌, ℕ, ◌≤◌, sym, ◌∙◌, arith, ℤ, pos, ◌-ℤ◌, to_z, of_z, unsigned_abs, w16, w64}
use Rattle.std.proofs.lemmas.Int.{ints}
use Rattle.jiff_core.specs.Date.{epoch_day}
use Rattle.jiff_core.specs.declared.civil.date.Date.{Date}
use Rattle.hl_time.specs.Calendar.{IsDay}
use Rattle.hl_time.proofs.Inverse.{Only, day_found}
use Rattle.hl_time.proofs.CivilDays.{from_jiff}
use Rattle.hl_time.proofs.day.civil_of.Goals as goal

known : (date : Date) (number : ℕ) (given epoch : ℤ) → IsDay number → given ≡ pos number → epoch ≡ pos 719_163 → epoch_day date ≡ to_z w64 (of_z w64 (to_z w64 (of_z w64 given) -ℤ to_z w64 (of_z w64 epoch))) → (date.year ≡ pos (unsigned_abs date.year)) × Only (unsigned_abs date.year) date.month date.day number
known date number given epoch within is by same =
    from_jiff date.year date.month date.day number (date.year_in, date.month_in, date.day_in) within.0 within.1 (omega (arith, ints, same))

is_known : (c : goal.After-struct_told-1) → (c.unwrap-date.result.year ≡ pos (unsigned_abs c.unwrap-date.result.year)) × Only (unsigned_abs c.unwrap-date.result.year) c.unwrap-date.result.month c.unwrap-date.result.day c.args.day.0
is_known c =
    known c.unwrap-date.result c.args.day.0 c.from.result c.from-2.result c.requires c.from.ensures c.from-2.ensures (rw c.unwrap-date.ensures at c.from_unix_epoch_day.ensures.value)

-- a year fits the type that it is cast to
small_year : (date : Date) → date.year ≡ pos (unsigned_abs date.year) → (unsigned_abs date.year ≤ 9999) × (unsigned_abs (to_z w16 (of_z w16 date.year)) ≡ unsigned_abs date.year)
small_year date is = omega (arith, ints, date.year_in)

pub overflow_cast-result : goal.overflow_cast-result
overflow_cast-result c =
    let small = small_year c.unwrap-date.result (is_known c).0 in
    let fits = c.unwrap-date.result.year_in in
    omega (arith, ints, small.0, small.1, (is_known c).0, fits)

pub returns-clause-year : goal.returns-clause-year
returns-clause-year c =
    (small_year c.unwrap-date.result (is_known c).0).1 ∙ sym (is_known c).1.year_same

pub returns-clause-month : goal.returns-clause-month
returns-clause-month c = sym (is_known c).1.month_same

pub returns-clause-day : goal.returns-clause-day
returns-clause-day c = sym (is_known c).1.day_same

pub returns-clause-exists : goal.returns-clause-exists
returns-clause-exists c =
    rw (returns-clause-year c, returns-clause-month c, returns-clause-day c) (day_found c.args.day.0 c.requires).has

pub returns-clause-back : goal.returns-clause-back
returns-clause-back c =
    rw (returns-clause-year c, returns-clause-month c, returns-clause-day c) (day_found c.args.day.0 c.requires).same
