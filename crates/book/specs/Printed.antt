-- Amounts as they are printed.
use Rattle.std.specs.Prelude.{ℕ, ℤ, Bool, ◌&&◌, ◌||◌, not, List, [], ◌∷◌, ◌++◌, ◌==◌, Option, Some, None, if◌then◌else◌, codes}
use Rattle.std.specs.List.{list_all}
use Rattle.hl_base.specs.Ascii.{line_feed, quote, dollar, percent, comma, dot, underscore, is_white, is_digit, is_punctuation}
use Rattle.hl_num.specs.Decimal.{Decimal, units_of}
use Rattle.hl_num.specs.Printing.{printed_units, printed_number}
use Rattle.hl_num.specs.declared.printing.Shape.{Shape}
use Rattle.book.specs.declared.amount.Written.{Written}
use Rattle.book.specs.declared.style.Style.{Style}

-- the decimal mark of a shape: what is written; else a comma where the group mark is a point; else a point
abbrev pub mark_beside : Option ℕ → ℕ
mark_beside None = dot
mark_beside (Some group) = if group == dot then comma else dot

abbrev pub mark_of : Option ℕ → Option ℕ → ℕ
mark_of None group = mark_beside group
mark_of (Some mark) group = mark

-- how the numbers of a shape are printed
abbrev pub number_shape : Written → Shape
number_shape shape = record { mark = mark_of shape.mark shape.group; group = shape.group; first = shape.first; rest = shape.rest }

-- the punctuation that may stand in a symbol without quotes: `$`, `%` and `_`
abbrev pub is_symbol_mark : ℕ → Bool
is_symbol_mark b = (b == dollar) || (b == percent) || (b == underscore)

-- what may stand in a symbol without quotes: no white space, no ASCII digit, and no other ASCII punctuation
abbrev pub stands_unquoted : ℕ → Bool
stands_unquoted b = not (is_white b || (b == line_feed) || is_digit b || (is_punctuation b && not (is_symbol_mark b)))

-- a symbol, in double quotes where it can't stand without
abbrev pub printed_symbol : List ℕ → List ℕ
printed_symbol symbol = if list_all stands_unquoted symbol then symbol else (quote ∷ []) ++ symbol ++ (quote ∷ [])

-- the space between a number and its symbol
abbrev pub gap_of : Bool → List ℕ
gap_of is_spaced = if is_spaced then codes " " else []

-- a number with its symbol, by the side and spacing of a shape; the empty symbol leaves the number alone
abbrev pub with_symbol : Written → List ℕ → List ℕ → List ℕ
with_symbol shape [] number = number
with_symbol shape (b ∷ bs) number =
    let symbol = printed_symbol (b ∷ bs) in
    if shape.left then symbol ++ gap_of shape.spaced ++ number else number ++ gap_of shape.spaced ++ symbol

-- a value in units of 10^-36, in a style
abbrev pub printed_units_of : List ℕ → ℤ → Style → List ℕ
printed_units_of symbol units style = with_symbol style.shape symbol (printed_units units style.places (number_shape style.shape))

-- an amount in a style: two of equal value print alike
abbrev pub printed_amount : List ℕ → Decimal → Style → List ℕ
printed_amount symbol value style = printed_units_of symbol (units_of value) style

-- numbers in error lines: a point, no groups
abbrev pub plain_number_shape : Shape
plain_number_shape = record { mark = dot; group = None; first = 3; rest = 3 }

-- an amount in an error line: the exact number with all its decimals, a space, and the symbol
abbrev pub plain_amount : List ℕ → Decimal → List ℕ
plain_amount symbol value = printed_number value value.places plain_number_shape ++ codes " " ++ symbol
