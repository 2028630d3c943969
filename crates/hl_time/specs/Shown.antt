-- Days and columns as they are printed.
use Rattle.std.specs.Prelude.{ℕ, ◌+◌, ◌-◌, ◌/◌, ◌%◌, Bool, ◌&&◌, ◌==◌, if◌then◌else◌, min, max, List, [], ◌∷◌, ◌++◌}
use Rattle.hl_base.specs.Ascii.{dot, minus}
use Rattle.hl_time.specs.Calendar.{year_of, month_of, day_of_month, last_day}
use Rattle.hl_time.specs.Units.{unit_of}
use Rattle.hl_time.specs.Split.{begins}
use Rattle.hl_time.specs.declared.spans.Unit as declared
use Rattle.hl_time.specs.declared.spans.Unit.TheVariants as units
use Rattle.hl_time.specs.declared.spans.Span.{Span}

abbrev pub tens : ℕ → ℕ
tens n = 48 + n / 10

abbrev pub ones : ℕ → ℕ
ones n = 48 + n % 10

abbrev pub two_digits : ℕ → List ℕ
two_digits n = tens n ∷ ones n ∷ []

abbrev pub four_digits : ℕ → List ℕ
four_digits n = two_digits (n / 100) ++ two_digits (n % 100)

-- `Y-MM-DD`
unfoldable pub day_text : ℕ → List ℕ
day_text day = four_digits (year_of day) ++ (minus ∷ two_digits (month_of day)) ++ (minus ∷ two_digits (day_of_month day))

-- a day of the calendar as `Y-MM-DD`; a number before or past the calendar shows its first or its last day
abbrev pub calendar_text : ℕ → List ℕ
calendar_text day = day_text (max 1 (min day last_day))

-- the days from one up to an end are exactly a unit
unfoldable pub is_unit : declared.Unit → ℕ → ℕ → Bool
is_unit unit from end =
    (from == begins unit (unit_of unit from)) && (end == begins unit (unit_of unit from + 1))

-- the name of the days from one up to an end: a year, a quarter, a month, a day, or the first and the last day
unfoldable pub days_text : ℕ → ℕ → List ℕ
days_text from end =
    if is_unit units.Year from end then four_digits (year_of from)
    else if is_unit units.Quarter from end then four_digits (year_of from) ++ (81 ∷ (49 + (month_of from - 1) / 3) ∷ [])
    else if is_unit units.Month from end then four_digits (year_of from) ++ (minus ∷ two_digits (month_of from))
    else if end == from + 1 then day_text from
    else day_text from ++ (dot ∷ dot ∷ []) ++ day_text (end - 1)

-- the head of a column: in a span without days the first day stands for the last too, and 9999-12-31 for a first day
-- past it
abbrev pub column_text : Span → List ℕ
column_text span =
    let from = min span.from last_day in
    days_text from (max span.end (from + 1))
