-- Days, each with a count.
use Rattle.std.specs.Prelude.{ℕ, ◌+◌, ◌-◌, nat_lt, true, List, find, Option, Some, None, if◌then◌else◌}
use Rattle.std.specs.declared.cmp.Ordering.{Ordering}
use Rattle.std.specs.Ordering.{nat_cmp, is_eq}
use Rattle.std.specs.BTreeSet.{replace_key}
use Rattle.hl_time.specs.declared.day.Day.{Day}
use Rattle.shared_set.specs.Sorted.{find_last, without_key}
use Rattle.asked_days.specs.declared.counts.DayCount.{DayCount}

abbrev pub day_cmp : DayCount → DayCount → Ordering
day_cmp a b = nat_cmp a.day.0 b.day.0

-- what is kept of a day
abbrev pub found_at : ℕ → List DayCount → Option DayCount
found_at day days = find (λ c. is_eq (nat_cmp day c.day.0)) days

abbrev pub count_of : Option DayCount → ℕ
count_of None = 0
count_of (Some c) = c.count

abbrev pub count_at : ℕ → List DayCount → ℕ
count_at day days = count_of (found_at day days)

abbrev pub with_count : Day → ℕ → DayCount
with_count day count = record { day = day; count = count }

-- a day once more, and once less
abbrev pub counted : List DayCount → Day → List DayCount
counted days day = replace_key day_cmp days (with_count day (count_at day.0 days + 1))

abbrev pub uncounted : List DayCount → Day → List DayCount
uncounted days day =
    if nat_lt 1 (count_at day.0 days)
    then replace_key day_cmp days (with_count day (count_at day.0 days - 1))
    else without_key day_cmp (with_count day 1) days

abbrev pub day_if : Option DayCount → ℕ
day_if None = 0
day_if (Some c) = c.day.0

-- the last day, or 0
abbrev pub last_day : List DayCount → ℕ
last_day days = day_if (find_last (λ c. true) days)
