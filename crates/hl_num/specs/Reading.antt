-- The numbers that people write: digits, and the marks `.` and `,` between them.
use Rattle.std.specs.Prelude.{ℕ, pos, ◌+◌, ◌*◌, ◌-◌, ◌^◌, min, Bool, true, false, not, ◌&&◌, ◌||◌, nat_lt, nat_le, ◌==◌, if◌then◌else◌, List, [], ◌∷◌, length, take, drop, reverse, Option, Some, None, Result, Ok, Err}
use Rattle.std.specs.List.{list_all, list_any, filter, find, count_by, prefix_len}
use Rattle.std.specs.Str.Parse.{digits_value}
use Rattle.hl_base.specs.Ascii.{comma, digit_zero, dot}
pub use Rattle.hl_base.specs.Ascii.{is_digit}
use Rattle.hl_num.specs.declared.reading.Number.{Number}
use Rattle.hl_num.specs.declared.reading.BadNumber.{BadNumber}

-- '.' and ','
abbrev pub is_mark : ℕ → Bool
is_mark b = b == dot || b == comma

abbrev pub other_mark : ℕ → ℕ
other_mark mark = if mark == dot then comma else dot

-- digits and marks alone make up a number
abbrev pub is_number_byte : ℕ → Bool
is_number_byte b = is_digit b || is_mark b

-- the last mark of a text is its decimal mark, unless it stands more than once and the other doesn't stand
abbrev pub kept_mark : List ℕ → Option ℕ → Option ℕ
kept_mark text None = None
kept_mark text (Some mark) =
    if list_any (λ b. b == other_mark mark) text || nat_lt (count_by (λ b. b == mark) text) 2 then Some mark else None

-- where no mark is decided
abbrev pub undecided_mark : List ℕ → Option ℕ
undecided_mark text = kept_mark text (find is_mark (reverse text))

-- the decimal mark that stands in the text
abbrev pub decimal_mark : List ℕ → Option ℕ → Option ℕ
decimal_mark text None = undecided_mark text
decimal_mark text (Some mark) = if list_any (λ b. b == mark) text then Some mark else None

-- how many bytes stand before the decimal mark
abbrev pub whole_len : List ℕ → Option ℕ → ℕ
whole_len text None = length text
whole_len text (Some mark) = prefix_len (λ b. not (b == mark)) text

-- one more digit in the first group
abbrev pub widened : List ℕ → List ℕ
widened [] = 1 ∷ []
widened (size ∷ sizes) = (size + 1) ∷ sizes

-- the numbers of digits before the first mark, between the marks, and after the last
abbrev pub sizes_between : List ℕ → List ℕ
sizes_between [] = 0 ∷ []
sizes_between (b ∷ bs) = if is_mark b then 0 ∷ sizes_between bs else widened (sizes_between bs)

-- the sizes of the groups of digits, the rightmost first
abbrev pub group_sizes : List ℕ → List ℕ
group_sizes whole = sizes_between (reverse whole)

-- a group mark has digits on both sides
abbrev pub are_groups : List ℕ → Bool
are_groups (size ∷ []) = true
are_groups sizes = list_all (λ size. nat_lt 0 size) sizes

-- the size of the rightmost group; three where there are no groups
abbrev pub first_size : List ℕ → ℕ
first_size (size ∷ next ∷ sizes) = min size 255
first_size sizes = 3

-- the size of the group left of it where that isn't the leftmost, else the same
abbrev pub rest_size : List ℕ → ℕ
rest_size (size ∷ next ∷ left ∷ sizes) = min next 255
rest_size sizes = first_size sizes

-- the value of the digits
abbrev pub mantissa_of : List ℕ → ℕ
mantissa_of text = digits_value 10 (filter is_digit text)

-- the value after one more byte
abbrev pub value_with : ℕ → ℕ → ℕ
value_with value b = if is_digit b then value * 10 + (b - 48) else value

-- whether a text is written as a number, with these bytes left and right of its decimal mark
abbrev pub is_written : List ℕ → List ℕ → List ℕ → Bool
is_written text whole decimals =
    list_all is_number_byte text
    && list_any is_digit text
    && list_all is_digit decimals
    && nat_le (length decimals) 18
    && are_groups (group_sizes whole)

-- the number that a text is, with the decimal mark that stands in it
unfoldable pub number_with : List ℕ → Option ℕ → Option Number
number_with text mark =
    let whole = take (whole_len text mark) text in
    let decimals = drop (whole_len text mark + 1) text in
    if is_written text whole decimals && nat_lt (mantissa_of text) (2 ^ 127)
    then Some (record {
      value = record { mantissa = pos (mantissa_of text); places = length decimals };
      mark = mark;
      group = find is_mark whole;
      first = first_size (group_sizes whole);
      rest = rest_size (group_sizes whole);
    })
    else None

-- the same, with the mark that was decided
abbrev pub number_of : List ℕ → Option ℕ → Option Number
number_of text decided = number_with text (decimal_mark text decided)

-- where the digits and marks end
abbrev pub number_end : List ℕ → ℕ
number_end text = prefix_len is_number_byte text

-- what reading a text answers
abbrev pub reading : List ℕ → Option ℕ → Result Number BadNumber
reading text decided = elim (number_of text decided) [ Some number ↦ Ok number | None ↦ Err (record { at = number_end text }) ]

-- the greatest number that is told
abbrev pub most : ℕ
most = 2 ^ 64 - 1

-- a number from 1 doesn't begin with a zero
abbrev pub begins_number : List ℕ → Bool
begins_number [] = false
begins_number (b ∷ bs) = not (b == digit_zero)
