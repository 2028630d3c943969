-- How a number is printed.
use Rattle.std.specs.Prelude.{ℕ, ℤ, pos, ◌-◌, ◌/◌, ◌%◌, ◌^◌, max, Bool, ◌&&◌, nat_lt, nat_le, ◌==◌, if◌then◌else◌, List, [], ◌∷◌, ◌++◌, length, replicate, Option, Some, None, unsigned_abs, int_lt, encode_utf8}
use Rattle.std.specs.Fmt.{decimal, sign_text}
use Rattle.hl_num.specs.declared.printing.Shape.{Shape}
use Rattle.hl_num.specs.Decimal.{Decimal, units_of}
use Rattle.hl_num.specs.Rounding.{half_even}

-- a group ends where the digits that follow make up the rightmost group and any number of whole groups left of it;
-- a size of zero counts as one
abbrev pub ends_group : Shape → ℕ → Bool
ends_group shape after = nat_le (max 1 shape.first) after && ((after - max 1 shape.first) % max 1 shape.rest == 0)

-- the text of a group mark
abbrev pub mark_text : Option ℕ → List ℕ
mark_text None = []
mark_text (Some mark) = encode_utf8 mark

-- what stands after a digit that so many more follow
abbrev pub separator : Shape → ℕ → List ℕ
separator shape after = if ends_group shape after then mark_text shape.group else []

-- the digits left of the decimal mark, with a group mark where a group ends
abbrev pub grouped : Shape → List ℕ → List ℕ
grouped shape [] = []
grouped shape (digit ∷ digits) = (digit ∷ separator shape (length digits)) ++ grouped shape digits

-- the digits of n, after as many zeros as make up the width
abbrev pub zero_padded : ℕ → ℕ → List ℕ
zero_padded width n = replicate (width - length (decimal n)) 48 ++ decimal n

-- the decimal mark and the decimals, where there are places
abbrev pub decimals : Shape → ℕ → ℕ → List ℕ
decimals shape places n = if nat_lt 0 places then encode_utf8 shape.mark ++ zero_padded places n else []

-- a number of units of 10 ^ -places, with its sign if it isn't zero
unfoldable pub printed_scaled : Bool → ℕ → ℕ → Shape → List ℕ
printed_scaled is_negative n places shape =
    sign_text (is_negative && nat_lt 0 n)
    ++ grouped shape (decimal (n / 10 ^ places))
    ++ decimals shape places (n % 10 ^ places)

-- a value in units of 10 ^ -36, rounded half to even to that many places
unfoldable pub printed_units : ℤ → ℕ → Shape → List ℕ
printed_units units places shape =
    printed_scaled (int_lt units (pos 0)) (half_even (unsigned_abs units) (10 ^ (36 - places))) places shape

-- the same of a decimal: two of equal value print alike
abbrev pub printed_number : Decimal → ℕ → Shape → List ℕ
printed_number value places shape = printed_units (units_of value) places shape
