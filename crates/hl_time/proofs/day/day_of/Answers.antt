use Rattle.std.proofs.Common.{◌≡◌, ℕ, ◌≤◌, true, refl, ap, arith, pos, ◌+ℤ◌, to_z, of_z, unsigned_abs, w8, w16, w32, Some}
use Rattle.std.proofs.lemmas.Int.{ints}
use Rattle.jiff_core.specs.Calendar.{days_from_civil, IsDate}
use Rattle.jiff_core.proofs.SignedLemmas.{signed_arith}
use Rattle.hl_time.specs.Calendar.{has_day, day_number}
use Rattle.hl_time.specs.declared.day.Day.{Day}
use Rattle.hl_time.proofs.Inverse.{day_only}
use Rattle.hl_time.proofs.CivilDays.{same_day, same_dates, from_epoch, at_least_its_day}
use Rattle.hl_time.proofs.day.day_of.Goals as goal

-- what `jiff` says of the date that it made, in the numbers that were given
record Made (c : goal.After-to_unix_epoch_day) : Type 0 where
  has : has_day c.args.year c.args.month c.args.day ≡ true
  first : 1 ≤ c.args.day
  number : pos (day_number c.args.year c.args.month c.args.day) ≡ c.to_unix_epoch_day.result +ℤ pos 719163

made : (c : goal.After-to_unix_epoch_day) → Made c
made c =
    let v = c.in-Ok.ensures.value in
    let d = c.in-Ok.ensures.succeeds.0 refl in
    let year : to_z w16 c.args.year ≡ pos c.args.year = omega (arith, ints) in
    let month : to_z w8 c.args.month ≡ pos c.args.month = omega (arith, ints) in
    let day : to_z w8 c.args.day ≡ pos c.args.day = omega (arith, ints) in
    let given : IsDate (pos c.args.year) (pos c.args.month) (pos c.args.day) = rw (year, month, day) at d in
    let same_month : c.in-Ok.date.month ≡ c.args.month = omega (arith, signed_arith, v.1) in
    let same_day_of_month : c.in-Ok.date.day ≡ c.args.day = omega (arith, signed_arith, v.2) in
    let value : c.to_unix_epoch_day.result ≡ days_from_civil (pos c.args.year) c.args.month c.args.day = cc (v.0, c.to_unix_epoch_day.ensures.value) in
    record {
      has = same_dates c.args.year c.args.month c.args.day (omega arith) given;
      first = omega (arith, signed_arith, given.2.0);
      number = rw value (same_day c.args.year c.args.month c.args.day (omega arith) (omega (arith, signed_arith, given.2.0)));
    }

day_found : (c : goal.After-to_unix_epoch_day) → unsigned_abs (to_z w32 (of_z w32 (to_z w32 (of_z w32 c.to_unix_epoch_day.result) +ℤ pos 719_163))) ≡ day_number c.args.year c.args.month c.args.day
day_found c = from_epoch c.to_unix_epoch_day.result _ c.to_unix_epoch_day.ensures.bound (made c).number

pub overflow_cast-result : goal.overflow_cast-result
overflow_cast-result c = omega (arith, ints, c.to_unix_epoch_day.ensures.bound, (made c).number)

pub returns-in-Ok-clause-number : goal.returns-in-Ok-clause-number
returns-in-Ok-clause-number c =
    rw (made c).has (ap (λ (n : ℕ). Some (let d : Day = record { 0 = n } in d)) (day_found c))

pub returns-in-Ok-clause-range : goal.returns-in-Ok-clause-range
returns-in-Ok-clause-range c =
    rw (day_found c) (omega (arith, signed_arith, c.to_unix_epoch_day.ensures.bound, (made c).number, (made c).first, at_least_its_day c.args.year c.args.month c.args.day))

pub returns-in-Ok-clause-back : goal.returns-in-Ok-clause-back
returns-in-Ok-clause-back c =
    let only = day_only c.args.year c.args.month c.args.day (made c).has in
    rw (day_found c) (only.year_same, only.month_same, only.day_same)
