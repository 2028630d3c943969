-- The words of a period.
use Rattle.std.specs.Prelude.{ℕ, zero, suc, ◌+◌, ◌-◌, ◌*◌, Bool, true, false, not, ◌&&◌, ◌||◌, ◌==◌, nat_le, if◌then◌else◌, Option, Some, None, Result, Ok, Err, List, [], ◌∷◌, length, map, drop, codes, slice_index, slice_range}
use Rattle.std.specs.Char.{to_ascii_lowercase}
use Rattle.hl_base.specs.Ascii.{carriage_return, dot, space, tab}
use Rattle.hl_time.specs.Calendar.{day_end, has_year, has_month}
use Rattle.hl_time.specs.Date.{is_separator, is_digit_at, digit_at, part_length, part_value, year_digits, year_value, date_of}
use Rattle.hl_time.specs.Units.{unit_start}
use Rattle.hl_time.specs.declared.spans.Span.{Span}
use Rattle.hl_time.specs.declared.spans.Unit as declared
use Rattle.hl_time.specs.declared.spans.Unit.TheVariants as units
use Rattle.hl_time.specs.declared.words.Link.TheVariants as links
use Rattle.hl_time.specs.declared.words.Step.TheVariants as steps
use Rattle.hl_time.specs.declared.words.Word.{Word}
use Rattle.hl_time.specs.declared.words.Word.TheVariants as kinds

abbrev pub same_text : List ℕ → List ℕ → Bool
same_text [] [] = true
same_text [] (b ∷ bs) = false
same_text (a ∷ as_) [] = false
same_text (a ∷ as_) (b ∷ bs) = (a == b) && same_text as_ bs

-- the words are the same but for case
unfoldable pub is_word : List ℕ → List ℕ → Bool
is_word word name = same_text (map to_ascii_lowercase word) (map to_ascii_lowercase name)

-- the words of intervals
unfoldable pub interval_word : List ℕ → Word
interval_word word =
    if is_word word (codes "daily") then kinds.Each units.Day
    else if is_word word (codes "weekly") then kinds.Each units.Week
    else if is_word word (codes "biweekly") then kinds.Second units.Week
    else if is_word word (codes "monthly") then kinds.Each units.Month
    else if is_word word (codes "bimonthly") then kinds.Second units.Month
    else if is_word word (codes "quarterly") then kinds.Each units.Quarter
    else if is_word word (codes "yearly") then kinds.Each units.Year
    else if is_word word (codes "every") then kinds.Every
    else kinds.Other

unfoldable pub many_word : List ℕ → Word
many_word word =
    if is_word word (codes "days") then kinds.Many units.Day
    else if is_word word (codes "weeks") then kinds.Many units.Week
    else if is_word word (codes "months") then kinds.Many units.Month
    else if is_word word (codes "quarters") then kinds.Many units.Quarter
    else if is_word word (codes "years") then kinds.Many units.Year
    else interval_word word

unfoldable pub one_word : List ℕ → Word
one_word word =
    if is_word word (codes "day") then kinds.One units.Day
    else if is_word word (codes "week") then kinds.One units.Week
    else if is_word word (codes "month") then kinds.One units.Month
    else if is_word word (codes "quarter") then kinds.One units.Quarter
    else if is_word word (codes "year") then kinds.One units.Year
    else many_word word

unfoldable pub near_word : List ℕ → Word
near_word word =
    if is_word word (codes "last") then kinds.Near steps.Last
    else if is_word word (codes "this") then kinds.Near steps.This
    else if is_word word (codes "next") then kinds.Near steps.Next
    else if is_word word (codes "yesterday") then kinds.Day steps.Last
    else if is_word word (codes "today") then kinds.Day steps.This
    else if is_word word (codes "tomorrow") then kinds.Day steps.Next
    else one_word word

-- the words that begin and join moments
unfoldable pub keyword : List ℕ → Word
keyword word =
    if is_word word (codes "in") then kinds.Link links.In
    else if is_word word (codes "from") then kinds.Link links.From
    else if is_word word (codes "since") then kinds.Link links.Since
    else if is_word word (codes "to") then kinds.Link links.To
    else if is_word word (codes "until") then kinds.Link links.Until
    else if is_word word (codes "..") then kinds.Link links.Dots
    else near_word word

abbrev pub is_end : Word → Bool
is_end kinds.End = true
is_end _ = false

-- a number of units, from 1 to 999, in at most three digits
abbrev pub positive : ℕ → Option ℕ
positive n = if nat_le 1 n then Some n else None

unfoldable pub number_of : List ℕ → Option ℕ
number_of word =
    if (length word == 1) && is_digit_at word 0 then positive (digit_at word 0)
    else if (length word == 2) && is_digit_at word 0 && is_digit_at word 1
    then positive (10 * digit_at word 0 + digit_at word 1)
    else if (length word == 3) && is_digit_at word 0 && is_digit_at word 1 && is_digit_at word 2
    then positive (100 * digit_at word 0 + 10 * digit_at word 1 + digit_at word 2)
    else None

-- all days of a unit, where they are days of the calendar
unfoldable pub whole : declared.Unit → ℕ → Option Span
whole unit index =
    if nat_le (unit_start unit (index + 1)) day_end
    then Some (record { from = unit_start unit index; end = unit_start unit (index + 1) })
    else None

-- `YqN`
unfoldable pub is_quarter : List ℕ → Bool
is_quarter word =
    (length word == 6) && ((slice_index word 4 == 81) || (slice_index word 4 == 113))
    && (nat_le 49 (slice_index word 5) && nat_le (slice_index word 5) 52)

-- `Y-M`
unfoldable pub is_month : List ℕ → Bool
is_month word =
    is_separator (slice_index word 4) && not (part_length word 5 == 0) && (5 + part_length word 5 == length word)

abbrev pub written_day : Result ℕ ℕ → Option Span
written_day (Ok day) = Some (record { from = day; end = day + 1 })
written_day (Err at) = None

-- a written year, quarter, month or day
unfoldable pub written : List ℕ → Option Span
written word =
    let year = year_value word in
    if not (year_digits word == 4) then None
    else if not (has_year year) then None
    else if length word == 4 then whole units.Year (year - 1)
    else if is_quarter word then whole units.Quarter (4 * (year - 1) + (slice_index word 5 - 49))
    else if is_month word then
    (if has_month (part_value word 5) then whole units.Month (12 * (year - 1) + (part_value word 5 - 1)) else None)
    else written_day (date_of word None)

abbrev pub days_word : Option Span → Word
days_word (Some days) = kinds.Days days
days_word None = kinds.Other

abbrev pub number_or_days : Option ℕ → Option Span → Word
number_or_days (Some n) days = kinds.Number n
number_or_days None days = days_word days

-- what a word means
unfoldable pub word_of : List ℕ → Word
word_of word =
    if length word == 0 then kinds.End
    else if is_digit_at word 0 then number_or_days (number_of word) (written word)
    else keyword word

-- a space, a tab or a carriage return
abbrev pub is_blank : ℕ → Bool
is_blank byte = (byte == space) || (byte == tab) || (byte == carriage_return)

-- how many blanks a text begins with
unfoldable pub blanks : List ℕ → ℕ
blanks [] = 0
blanks (byte ∷ rest) = if is_blank byte then suc (blanks rest) else 0

-- how many bytes there are up to a blank, to `..` or to the end
unfoldable pub run : List ℕ → ℕ
run [] = 0
run (byte ∷ rest) = if is_blank byte || ((byte == dot) && (slice_index rest 0 == dot)) then 0 else suc (run rest)

-- `..` stands at a place
abbrev pub is_dots_at : List ℕ → ℕ → Bool
is_dots_at text at = (slice_index text at == dot) && (slice_index text (at + 1) == dot)

-- where the next word begins, and where a word ends that begins at a place: `..` is a word of its own
unfoldable pub word_start : List ℕ → ℕ → ℕ
word_start text at = at + blanks (drop at text)

unfoldable pub word_stop : List ℕ → ℕ → ℕ
word_stop text start = if is_dots_at text start then start + 2 else start + run (drop start text)

-- the meanings of so many words from a place on, with `End` where the text has no more
unfoldable pub words : ℕ → List ℕ → ℕ → List Word
words zero text at = []
words (suc n) text at =
    let start = word_start text at in
    let stop = word_stop text start in
    word_of (slice_range text start stop) ∷ words n text stop

-- the place of a word by its number, from 0
unfoldable pub place_of : ℕ → List ℕ → ℕ → ℕ
place_of zero text at = word_start text at
place_of (suc n) text at = place_of n text (word_stop text (word_start text at))
