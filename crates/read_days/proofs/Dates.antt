-- What is read of a date is a day of the calendar.
use Rattle.std.proofs.Common.{ℕ, ◌≡◌, ◌+◌, Bool, true, false, cond, ◌==◌, not, List, length, Option, Some, None, Result, Ok, Err, refl, subst}
use Rattle.std.specs.Prelude.{slice_index}
use Rattle.hl_time.specs.Calendar.{IsDay, day_number, has_day, has_month, has_year}
use Rattle.hl_time.specs.Date.{calendar_day, date_of, full_date, is_separator, month_day, part_length, part_value, year_digits, year_value}
use Rattle.hl_time.proofs.Inverse.{number_within}

abbrev pub Dated : Result ℕ ℕ → Type 0
Dated r = (day : ℕ) → r ≡ Ok day → IsDay day

ok_dated : (d : ℕ) → IsDay d → Dated (Ok d)
ok_dated d h x e = subst IsDay (let same : d ≡ x = cc in same) h

err_dated : (at : ℕ) → Dated (Err at)
err_dated at x e = absurd (let never : ⊥ = cc in never)

choice_dated : (t : Bool) (r s : Result ℕ ℕ) → (t ≡ true → Dated r) → Dated s → Dated (cond t r s)
choice_dated true r s h k = h refl
choice_dated false r s h k = k

unless_dated : (t : Bool) (at : ℕ) (s : Result ℕ ℕ) → Dated s → Dated (cond t (Err at) s)
unless_dated true at s k = err_dated at
unless_dated false at s k = k

calendar_dated : (year month day month_at day_at : ℕ) → Dated (calendar_day year month day month_at day_at)
unfolding calendar_day
calendar_dated year month day month_at day_at =
    choice_dated (has_day year month day) (Ok (day_number year month day))
    (cond (not (has_year year)) (Err 0) (cond (not (has_month month)) (Err month_at) (Err day_at)))
    (λ has. ok_dated (day_number year month day) (number_within year month day has))
    (unless_dated (not (has_year year)) 0 (cond (not (has_month month)) (Err month_at) (Err day_at))
    (unless_dated (not (has_month month)) month_at (Err day_at) (err_dated day_at)))

month_dated : (text : List ℕ) (at separator year : ℕ) → Dated (month_day text at separator year)
unfolding month_day
month_dated text at separator year =
    let month_end = at + part_length text at in
    let day_at = month_end + 1 in
    let day_end = day_at + part_length text day_at in
    unless_dated (part_length text at == 0) at _
    (unless_dated (not (slice_index text month_end == separator)) month_end _
    (unless_dated (part_length text day_at == 0) day_at _
    (unless_dated (not (day_end == length text)) day_end _
    (calendar_dated year (part_value text at) (part_value text day_at) at day_at))))

full_dated : (text : List ℕ) → Dated (full_date text)
unfolding full_date
full_dated text =
    unless_dated (not (year_digits text == 4)) (year_digits text) _
    (unless_dated (not (is_separator (slice_index text 4))) 4 _ (month_dated text 5 (slice_index text 4) (year_value text)))

pub date_dated : (text : List ℕ) (year : Option ℕ) → Dated (date_of text year)
unfolding date_of
date_dated text None = full_dated text
date_dated text (Some year) =
    let separator = slice_index text (part_length text 0) in
    choice_dated (is_separator separator) (month_day text 0 separator year) (full_date text) (λ is. month_dated text 0 separator year) (full_dated text)
