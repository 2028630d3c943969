-- The quantities of a timedot text.
use Rattle.std.specs.Prelude.{ℕ, pos, ◌-◌, ◌+◌, ◌*◌, ◌^◌, Bool, ◌&&◌, ◌||◌, ◌==◌, nat_le, List, [], ◌∷◌, ◌++◌, length, filter, take, slice_index, min, Option, Some, None, if◌then◌else◌}
use Rattle.std.specs.List.{fold, list_all}
use Rattle.hl_base.specs.Ascii.{digit_zero, dot, space}
use Rattle.hl_num.specs.Decimal.{Decimal}
use Rattle.entry_reader.specs.Lines.{before_byte, after_byte}
use Rattle.time_logs.specs.Days.{hours_of}
use Rattle.time_logs.specs.Moments.{◌>>=◌}
pub use Rattle.time_logs.specs.Moments.{is_digit}

-- the greatest number that is told
abbrev pub most : ℕ
most = 2 ^ 64 - 1

-- hundredths of hours
abbrev pub hundredths : ℕ → Decimal
hundredths count = record { mantissa = pos count; places = 2 }

-- how many dots there are
abbrev pub dots_in : List ℕ → ℕ
dots_in text = length (filter (λ b. b == dot) text)

abbrev pub are_dots : List ℕ → Bool
are_dots text = list_all (λ b. (b == dot) || (b == space)) text

-- dots and spaces with at least one dot
abbrev pub is_dots : List ℕ → Bool
is_dots text = are_dots text && nat_le 1 (dots_in text)

-- a number with a digit more, or the greatest that is told
abbrev pub with_digit : ℕ → ℕ → ℕ
with_digit number digit = min (10 * number + (digit - digit_zero)) most

-- the number that digits write, or the greatest that is told
abbrev pub number_of : List ℕ → ℕ
number_of digits = fold with_digit 0 digits

-- 1 to 12 digits, and nothing else
abbrev pub are_few_digits : List ℕ → Bool
are_few_digits text = list_all is_digit text && nat_le 1 (length text) && nat_le (length text) 12

-- the digits of a number before its point, and its decimals
abbrev pub whole_of : List ℕ → List ℕ
whole_of text = before_byte dot text

abbrev pub decimals_of : List ℕ → List ℕ
decimals_of text = after_byte dot text

-- the last byte, and the text before it
abbrev pub last_byte : List ℕ → ℕ
last_byte text = slice_index text (length text - 1)

abbrev pub but_last : List ℕ → List ℕ
but_last text = take (length text - 1) text

-- a number of hours: 1 to 12 digits, of which at most two are decimals after a point
abbrev pub is_number : List ℕ → Bool
is_number text =
    list_all is_digit (whole_of text) && list_all is_digit (decimals_of text)
    && nat_le 1 (length (whole_of text) + length (decimals_of text))
    && nat_le (length (whole_of text) + length (decimals_of text)) 12
    && nat_le (length (decimals_of text)) 2

abbrev pub number_hours : List ℕ → Decimal
number_hours text =
    hundredths (100 * number_of (whole_of text) + number_of (decimals_of text) * 10 ^ (2 - length (decimals_of text)))

-- b'm'
abbrev pub letter_m : ℕ
letter_m = 109

-- the digits before an `m` at the end, 1 to 12 of them
unfoldable pub minutes_in : List ℕ → Option (List ℕ)
minutes_in text =
    if (last_byte text == letter_m) && are_few_digits (but_last text) then Some (but_last text) else None

-- The hours of a quantity: each dot is a quarter of an hour; a number of hours; or minutes.
unfoldable pub quantity_of : List ℕ → Option Decimal
quantity_of text =
    if is_dots text then Some (hundredths (25 * dots_in text))
    else if is_number text then Some (number_hours text)
    else (minutes_in text >>= λ digits. Some (hours_of (60 * number_of digits)))
