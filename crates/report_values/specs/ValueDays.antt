-- The day on which a taking is valued.
use Rattle.std.specs.Prelude.{ℕ, List, slice_index_or}
use Rattle.hl_time.specs.declared.day.Day.{Day}
use Rattle.report_values.specs.declared.dates.Dates.{Dates}
use Rattle.report_values.specs.declared.dates.Dates.TheVariants as dates

-- the day of a column, by its number
abbrev pub day_at : List Day → ℕ → ℕ
day_at days number = (slice_index_or days number (record { 0 = 0 })).0

-- by the day of the taking: that day, one day for all, or the day of the column of that number
abbrev pub day_by : Dates → ℕ → ℕ
day_by dates.Own day = day
day_by (dates.On one) day = one.0
day_by (dates.Columns days) number = day_at days.now number
