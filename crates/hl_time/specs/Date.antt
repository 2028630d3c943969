-- Written dates: `Y-M-D`, `Y/M/D` or `Y.M.D` with one separator throughout, four digits of year, and one or two of
-- month and day; and `M-D` where the year is given.
use Rattle.std.specs.Prelude.{ℕ, ◌+◌, ◌-◌, ◌*◌, Bool, not, ◌||◌, ◌==◌, if◌then◌else◌, List, length, slice_index, Option, Some, None, Result, Ok, Err}
use Rattle.std.specs.Char.{is_ascii_digit}
use Rattle.hl_base.specs.Ascii.{dot, minus, slash}
use Rattle.hl_time.specs.Calendar.{has_year, has_month, has_day, day_number}
use Rattle.hl_time.specs.declared.day.Day.{Day}
use Rattle.hl_time.specs.declared.fault.TimeFault.{TimeFault}
use Rattle.hl_time.specs.declared.fault.TimeFault.TheVariants.{BadDate}

-- `-`, `.` or `/`
abbrev pub is_separator : ℕ → Bool
is_separator byte = (byte == minus) || (byte == dot) || (byte == slash)

abbrev pub is_digit_at : List ℕ → ℕ → Bool
is_digit_at text at = is_ascii_digit (slice_index text at)

abbrev pub digit_at : List ℕ → ℕ → ℕ
digit_at text at = slice_index text at - 48

-- how many digits of a month or a day stand at a place, at most two
unfoldable pub part_length : List ℕ → ℕ → ℕ
part_length text at =
    if is_digit_at text at then (if is_digit_at text (at + 1) then 2 else 1) else 0

-- the number that they write
unfoldable pub part_value : List ℕ → ℕ → ℕ
part_value text at =
    if is_digit_at text (at + 1) then 10 * digit_at text at + digit_at text (at + 1) else digit_at text at

-- how many of the first four bytes are digits, up to the first that is none
unfoldable pub year_digits : List ℕ → ℕ
year_digits text =
    if not (is_digit_at text 0) then 0
    else if not (is_digit_at text 1) then 1
    else if not (is_digit_at text 2) then 2
    else if not (is_digit_at text 3) then 3
    else 4

unfoldable pub year_value : List ℕ → ℕ
year_value text = 1000 * digit_at text 0 + 100 * digit_at text 1 + 10 * digit_at text 2 + digit_at text 3

-- the number of a written day, or the place of the part that the calendar hasn't: the text's beginning for a year,
-- else that of the month or of the day
unfoldable pub calendar_day : (year month day month_at day_at : ℕ) → Result ℕ ℕ
calendar_day year month day month_at day_at =
    if has_day year month day then Ok (day_number year month day)
    else if not (has_year year) then Err 0
    else if not (has_month month) then Err month_at
    else Err day_at

-- month and day up to the text's end, with that separator between them
unfoldable pub month_day : (text : List ℕ) (at separator year : ℕ) → Result ℕ ℕ
month_day text at separator year =
    let month_end = at + part_length text at in
    let day_at = month_end + 1 in
    let day_end = day_at + part_length text day_at in
    if part_length text at == 0 then Err at
    else if not (slice_index text month_end == separator) then Err month_end
    else if part_length text day_at == 0 then Err day_at
    else if not (day_end == length text) then Err day_end
    else calendar_day year (part_value text at) (part_value text day_at) at day_at

-- a date with its year
unfoldable pub full_date : List ℕ → Result ℕ ℕ
full_date text =
    if not (year_digits text == 4) then Err (year_digits text)
    else if not (is_separator (slice_index text 4)) then Err 4
    else month_day text 5 (slice_index text 4) (year_value text)

-- The day number that a text writes, with that year where it writes none; else the place of its fault: the first byte
-- with which the text is no beginning of a date, its end where more has to come, or the part that the calendar hasn't.
unfoldable pub date_of : List ℕ → Option ℕ → Result ℕ ℕ
date_of text None = full_date text
date_of text (Some year) =
    if is_separator (slice_index text (part_length text 0))
    then month_day text 0 (slice_index text (part_length text 0)) year
    else full_date text

-- the same as an answer of the program
abbrev pub day_answer : Result ℕ ℕ → Result Day TimeFault
day_answer (Ok day) = Ok (record { 0 = day })
day_answer (Err at) = Err (BadDate at)
