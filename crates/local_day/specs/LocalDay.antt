-- The day that a clock of a zone shows at an instant.
use Rattle.std.specs.Prelude.{ℕ, ◌+◌, ◌/◌, min, ℤ, pos, negsuc, neg_ℤ, ◌+ℤ◌, int_lt, if◌then◌else◌}
use Rattle.hl_time.specs.Calendar.{last_day}
use Rattle.jiff_core.specs.Timestamp.{nanos_of_seconds}
use Rattle.jiff_tz.specs.PosixRule as rules
use Rattle.jiff_tz.specs.Tzif as tables
use Rattle.local_day.specs.declared.zone.Zone.{Zone}
use Rattle.local_day.specs.declared.zone.Zone.TheVariants.{Utc, Rule, Table}

-- the seconds by which a zone's clock is ahead of UTC, so many nanoseconds after the beginning of 1970 in UTC
unfoldable pub offset_at : Zone → ℤ → ℤ
offset_at Utc nanos = pos 0
offset_at (Rule rule) nanos = (rules.offset_at rule nanos).seconds
offset_at (Table table) nanos = (tables.offset_at table nanos).seconds

-- the first and the last second since the beginning of 1970 of which `jiff` says what a zone's clock shows
abbrev pub first_second : ℤ
first_second = neg_ℤ (pos 377705023201)

abbrev pub last_second : ℤ
last_second = pos 253402207200

-- a second within these, or the nearer one of them
abbrev pub bounded : ℤ → ℤ
bounded seconds =
    if int_lt seconds first_second then first_second
    else (if int_lt last_second seconds then last_second else seconds)

-- the seconds from the beginning of 0001-01-01 to that of 1970-01-01
abbrev pub before_1970 : ℤ
before_1970 = pos 62135596800

-- a number, and 0 for a negative one
abbrev pub not_negative : ℤ → ℕ
not_negative (pos n) = n
not_negative (negsuc n) = 0

-- the day that a clock shows which is so many seconds past the beginning of 1970: day 1 before 0001-01-01, and the last
-- day after 9999-12-31
abbrev pub day_shown : ℤ → ℕ
day_shown clock = min (not_negative (clock +ℤ before_1970) / 86400 + 1) last_day

-- what a clock of a zone shows, in seconds past the beginning of 1970, so many seconds after that moment in UTC
abbrev pub clock_at : Zone → ℤ → ℤ
clock_at zone seconds = seconds +ℤ offset_at zone (nanos_of_seconds (bounded seconds))

-- the day in a zone, so many seconds after the beginning of 1970 in UTC
abbrev pub day_in : Zone → ℤ → ℕ
day_in zone seconds = day_shown (clock_at zone seconds)
