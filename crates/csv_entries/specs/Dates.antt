-- The day of a record.
use Rattle.std.specs.Prelude.{ℕ, ◌+◌, ◌*◌, ◌&&◌, ◌==◌, nat_le, List, [], ◌∷◌, codes, drop, take, Option, Some, None, Result, Ok, Err, if◌then◌else◌}
use Rattle.hl_time.specs.Calendar.{has_day, day_number}
use Rattle.hl_time.specs.Date.{date_of, digit_at, is_digit_at}
use Rattle.hl_time.specs.Words.{is_word}
use Rattle.csv_rules.specs.declared.kinds.DatePart.{DatePart}
use Rattle.csv_rules.specs.declared.kinds.DatePart.TheVariants as parts
use Rattle.csv_entries.specs.declared.dates.Parts.{Parts}

-- the number of so many digits at the front of a text, and what follows them
abbrev pub four_digits : List ℕ → Option (ℕ × List ℕ)
four_digits text =
    if is_digit_at text 0 && is_digit_at text 1 && is_digit_at text 2 && is_digit_at text 3
    then Some (1000 * digit_at text 0 + 100 * digit_at text 1 + 10 * digit_at text 2 + digit_at text 3, drop 4 text)
    else None

abbrev pub two_digits : List ℕ → Option (ℕ × List ℕ)
two_digits text =
    if is_digit_at text 0 && is_digit_at text 1
    then Some (10 * digit_at text 0 + digit_at text 1, drop 2 text)
    else None

abbrev pub one_digit : List ℕ → Option (ℕ × List ℕ)
one_digit text = if is_digit_at text 0 then Some (digit_at text 0, drop 1 text) else None

-- one or two digits
abbrev pub one_or_two : List ℕ → Option (ℕ × List ℕ)
one_or_two text = if is_digit_at text 1 then two_digits text else one_digit text

-- 69 to 99 are years after 1900, the others after 2000
abbrev pub century : ℕ → ℕ
century n = if nat_le 69 n then 1900 + n else 2000 + n

unfoldable pub late_month : List ℕ → Option ℕ
late_month text =
    if is_word text (codes "jul") then Some 7
    else if is_word text (codes "aug") then Some 8
    else if is_word text (codes "sep") then Some 9
    else if is_word text (codes "oct") then Some 10
    else if is_word text (codes "nov") then Some 11
    else if is_word text (codes "dec") then Some 12
    else None

-- the number of the month that three letters begin, in any case
unfoldable pub month_of : List ℕ → Option ℕ
month_of text =
    if is_word text (codes "jan") then Some 1
    else if is_word text (codes "feb") then Some 2
    else if is_word text (codes "mar") then Some 3
    else if is_word text (codes "apr") then Some 4
    else if is_word text (codes "may") then Some 5
    else if is_word text (codes "jun") then Some 6
    else late_month text

-- what was read of a date, and the text behind it
abbrev pub So_far : Type 0
So_far = Parts × List ℕ

abbrev pub year_with : Parts → Option (ℕ × List ℕ) → Option So_far
year_with p None = None
year_with p (Some found) = Some (record p { year = Some found.0 }, found.1)

abbrev pub short_year_with : Parts → Option (ℕ × List ℕ) → Option So_far
short_year_with p None = None
short_year_with p (Some found) = Some (record p { year = Some (century found.0) }, found.1)

abbrev pub month_with : Parts → Option (ℕ × List ℕ) → Option So_far
month_with p None = None
month_with p (Some found) = Some (record p { month = Some found.0 }, found.1)

abbrev pub day_with : Parts → Option (ℕ × List ℕ) → Option So_far
day_with p None = None
day_with p (Some found) = Some (record p { day = Some found.0 }, found.1)

abbrev pub name_with : Parts → Option ℕ → List ℕ → Option So_far
name_with p None rest = None
name_with p (Some n) rest = Some (record p { month = Some n }, rest)

-- the text goes on with this byte
abbrev pub past_byte : ℕ → Parts → List ℕ → Option So_far
past_byte byte p [] = None
past_byte byte p (b ∷ bs) = if b == byte then Some (p, bs) else None

-- one part of a date at the front of a text
abbrev pub part_at : DatePart → Parts → List ℕ → Option So_far
part_at parts.Year p text = year_with p (four_digits text)
part_at parts.ShortYear p text = short_year_with p (two_digits text)
part_at parts.Month p text = month_with p (one_or_two text)
part_at parts.MonthName p text = name_with p (month_of (take 3 text)) (drop 3 text)
part_at parts.Day p text = day_with p (one_or_two text)
part_at (parts.Byte b) p text = past_byte b p text

abbrev pub and_then : Option So_far → (So_far → Option Parts) → Option Parts
and_then None f = None
and_then (Some x) f = f x

-- the parts of a date that are the whole of a text
abbrev pub parts_of : List DatePart → Parts → List ℕ → Option Parts
parts_of [] p [] = Some p
parts_of [] p (b ∷ bs) = None
parts_of (d ∷ ds) p text = and_then (part_at d p text) (λ x. parts_of ds x.0 x.1)

abbrev pub no_parts : Parts
no_parts = record { year = None; month = None; day = None }

abbrev pub day_with_all : Option ℕ → Option ℕ → Option ℕ → Option ℕ
day_with_all (Some year) (Some month) (Some day) =
    if has_day year month day then Some (day_number year month day) else None
day_with_all _ _ _ = None

-- the day of a year, a month and a day, where all three are there
abbrev pub day_in : Option Parts → Option ℕ
day_in (Some p) = day_with_all p.year p.month p.day
day_in None = None

abbrev pub ok_of : Result ℕ ℕ → Option ℕ
ok_of (Ok day) = Some day
ok_of (Err at) = None

-- the day that a text writes: as the format says, else as journals write it, with its year
abbrev pub day_of : Option (List DatePart) → List ℕ → Option ℕ
day_of (Some format) text = day_in (parts_of format no_parts text)
day_of None text = ok_of (date_of text None)
