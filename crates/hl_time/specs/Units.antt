-- Units of the calendar, each kind numbered from the one that begins on 0001-01-01, which is unit 0.
use Rattle.std.specs.Prelude.{ℕ, ◌+◌, ◌-◌, ◌*◌, ◌/◌, ◌%◌, min, nat_le, if◌then◌else◌, Option, Some, None}
use Rattle.hl_time.specs.Calendar.{day_number, year_of, month_of, day_of_month, month_length, day_end, last_day}
use Rattle.hl_time.specs.declared.day.Day.{Day}
use Rattle.hl_time.specs.declared.spans.Interval.{Interval}
use Rattle.hl_time.specs.declared.spans.Unit as declared
use Rattle.hl_time.specs.declared.spans.Unit.TheVariants as units

-- the first day of a month
unfoldable pub month_start : ℕ → ℕ
month_start months = day_number (months / 12 + 1) (months % 12 + 1) 1

-- the month that holds a day
unfoldable pub month_index : ℕ → ℕ
month_index day = 12 * (year_of day - 1) + (month_of day - 1)

-- the first day of a unit
unfoldable pub unit_start : declared.Unit → ℕ → ℕ
unit_start units.Day index = index + 1
unit_start units.Week index = 7 * index + 1
unit_start units.Month index = month_start index
unit_start units.Quarter index = month_start (3 * index)
unit_start units.Year index = month_start (12 * index)

-- the unit that holds a day
unfoldable pub unit_of : declared.Unit → ℕ → ℕ
unit_of units.Day day = day - 1
unit_of units.Week day = (day - 1) / 7
unit_of units.Month day = month_index day
unit_of units.Quarter day = month_index day / 3
unit_of units.Year day = month_index day / 12

-- where a unit begins, if it does by the end of all days
unfoldable pub start_within : declared.Unit → ℕ → Option ℕ
start_within unit index =
    if nat_le (unit_start unit index) day_end then Some (unit_start unit index) else None

-- the day so many months on, in a month that hasn't that day its last
unfoldable pub months_on : ℕ → ℕ → ℕ
months_on day months =
    let index = month_index day + months in
    let year = index / 12 + 1 in
    let month = index % 12 + 1 in
    day_number year month (min (day_of_month day) (month_length year month))

-- a day, if it is one of all
unfoldable pub day_within : ℕ → Option Day
day_within day = if nat_le day last_day then Some (record { 0 = day }) else None

-- the day so many intervals on from a start
unfoldable pub occurrence : ℕ → Interval → ℕ → ℕ
occurrence start interval count = on interval.unit (interval.n * count) where
  on : declared.Unit → ℕ → ℕ
  on units.Day steps = start + steps
  on units.Week steps = start + 7 * steps
  on units.Month steps = months_on start steps
  on units.Quarter steps = months_on start (3 * steps)
  on units.Year steps = months_on start (12 * steps)
