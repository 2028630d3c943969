-- Days on which accounts may be closed.
use Rattle.std.specs.Prelude.{ℕ, nat_lt, Option, Some, None, if◌then◌else◌}
use Rattle.hl_time.specs.Calendar.{last_day}
use Rattle.hl_time.specs.declared.day.Day.{Day}

-- a day that has a next one in the calendar
abbrev pub closing_day : Day → Option ℕ
closing_day day = if nat_lt day.0 last_day then Some day.0 else None
