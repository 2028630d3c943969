-- The values of options.
use Rattle.std.specs.Prelude.{ℕ, ◌-◌, ◌^◌, min, Bool, false, not, ◌&&◌, ◌==◌, eqb, List, [], ◌∷◌, ◌++◌, codes, Option, Some, None, Result, Ok, Err, if◌then◌else◌}
use Rattle.std.specs.List.{list_all, before_first, after_first}
use Rattle.std.specs.Str.{bytes_eq}
use Rattle.std.specs.Str.Parse.{digits_value}
use Rattle.hl_num.specs.Reading.{begins_number, is_digit, most}
use Rattle.hl_time.specs.Calendar.{IsDay}
use Rattle.hl_time.specs.Date.{date_of, day_answer}
use Rattle.hl_time.specs.Periods.{period_of, IsPeriod}
use Rattle.hl_time.specs.declared.day.Day.{Day}
use Rattle.hl_time.specs.declared.fault.TimeFault.{TimeFault}
use Rattle.hl_time.specs.declared.spans.Interval.{Interval}
use Rattle.hl_time.specs.declared.spans.Period.{Period}
use Rattle.hl_time.specs.declared.spans.Unit as declared
use Rattle.hl_time.specs.declared.spans.Unit.TheVariants as units
use Rattle.report_options.specs.declared.names.Name.{Name}
use Rattle.report_options.specs.declared.names.Name.TheVariants as names
use Rattle.report_options.specs.declared.options.When.{When}
use Rattle.report_options.specs.declared.options.When.TheVariants as whens
use Rattle.report_options.specs.declared.values.Value.{Value}
use Rattle.report_options.specs.declared.values.Value.TheVariants as values

abbrev pub unbounded : Option Interval → Period
unbounded interval = record { from = None; end = None; interval = interval }

-- one unit after the other, without bounds
abbrev pub every : declared.Unit → Value
every unit = values.Days (unbounded (Some (record { unit = unit; n = 1 })))

-- the value of an option behind which nothing is written, if it may stand so
abbrev pub bare_value : Name → Option Value
bare_value names.Begin = None
bare_value names.End = None
bare_value names.Period = None
bare_value names.Depth = None
bare_value names.Exchange = None
bare_value names.Value = None
bare_value names.File = None
bare_value names.Store = None
bare_value names.Daily = Some (every units.Day)
bare_value names.Weekly = Some (every units.Week)
bare_value names.Monthly = Some (every units.Month)
bare_value names.Quarterly = Some (every units.Quarter)
bare_value names.Yearly = Some (every units.Year)
bare_value names.Forecast = Some (values.Days (unbounded None))
bare_value names.Market = Some (values.Worth (record { when = whens.End; target = None }))
bare_value _ = Some values.Nothing

abbrev pub days_read : Result Period TimeFault → Option Value
days_read (Ok period) = Some (values.Days period)
days_read (Err fault) = None

-- the period that a text is
abbrev pub period_in : List ℕ → ℕ → Option Value
period_in text day = days_read (period_of text day)

-- digits without a leading zero; a greater depth than the greatest is that one
abbrev pub depth_in : List ℕ → Option Value
depth_in text =
    if list_all is_digit text && begins_number text then Some (values.Depth (min (digits_value 10 text) most)) else None

abbrev pub on_day : Result Day TimeFault → Option When
on_day (Ok day) = Some (whens.On day)
on_day (Err fault) = None

-- a date with its year
abbrev pub day_in : List ℕ → Option When
day_in text = on_day (day_answer (date_of text None))

-- `cost`, `then`, `end`, `now` or a date
abbrev pub when_in : List ℕ → Option When
when_in text =
    if bytes_eq text (codes "cost") then Some whens.Cost
    else if bytes_eq text (codes "then") then Some whens.Then
    else if bytes_eq text (codes "end") then Some whens.End
    else if bytes_eq text (codes "now") then Some whens.Now
    else day_in text

-- what stands before the first comma, or all
abbrev pub before_comma : List ℕ → List ℕ
before_comma text = before_first (λ b. eqb b 44) text

-- what stands after the first comma, or nothing
abbrev pub after_comma : List ℕ → List ℕ
after_comma text = after_first (λ b. eqb b 44) text

-- a symbol; nothing is none
abbrev pub target_in : List ℕ → Option (List ℕ)
target_in [] = None
target_in (b ∷ bs) = Some (b ∷ bs)

abbrev pub worth_with : Option When → Option (List ℕ) → Option Value
worth_with (Some when) target = Some (values.Worth (record { when = when; target = target }))
worth_with None target = None

-- a time, and a symbol behind a comma
abbrev pub worth_in : List ℕ → Option Value
worth_in text = worth_with (when_in (before_comma text)) (target_in (after_comma text))

abbrev pub exchange_in : List ℕ → Option Value
exchange_in text = Some (values.Worth (record { when = whens.End; target = Some text }))

-- the name of a file or a store, whatever it is
abbrev pub name_in : List ℕ → Option Value
name_in text = Some (values.Named text)

-- The value that a text writes for an option, if it reads. A moment begins the days since it and ends those until it.
abbrev pub written_value : ℕ → Name → List ℕ → Option Value
written_value day names.Begin text = period_in (codes "since " ++ text) day
written_value day names.End text = period_in (codes "until " ++ text) day
written_value day names.Period text = period_in text day
written_value day names.Forecast text = period_in text day
written_value day names.Depth text = depth_in text
written_value day names.Exchange text = exchange_in text
written_value day names.Value text = worth_in text
written_value day names.File text = name_in text
written_value day names.Store text = name_in text
written_value day _ text = None

-- the value of an option by what is written for it
abbrev pub value_of : ℕ → Name → Option (List ℕ) → Option Value
value_of day name None = bare_value name
value_of day name (Some text) = written_value day name text

-- a day of valuation is a day
abbrev pub IsWhen : When → Type 0
IsWhen (whens.On day) = IsDay day.0
IsWhen _ = Unit {0}

-- periods have bounds that are days and intervals of one unit at least, and a day of valuation is a day
abbrev pub HasDays : Value → Type 0
HasDays (values.Days period) = IsPeriod period
HasDays (values.Worth worth) = IsWhen worth.when
HasDays _ = Unit {0}
