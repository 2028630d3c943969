-- Moments of days that the calendar has, in seconds from the first day's beginning on.
use Rattle.std.specs.Prelude.{ℕ, ◌*◌, ◌<◌}
use Rattle.hl_time.specs.Calendar.{last_day}

-- the seconds of a day
abbrev pub day_seconds : ℕ
day_seconds = 86400

-- it lies before the end of the last day
abbrev pub IsMoment : ℕ → Type 0
IsMoment moment = moment < last_day * day_seconds
