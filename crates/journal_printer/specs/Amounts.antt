-- Amounts as a journal shows them: in a shape, with their own decimals.
use Rattle.std.specs.Prelude.{ℕ, zero, suc, ◌/◌, ◌%◌, ◌==◌, Bool, true, false, ◌&&◌, List, [], ◌++◌, Option, Some, None, if◌then◌else◌, unsigned_abs, encode_utf8}
use Rattle.std.specs.List.{list_any}
use Rattle.hl_num.specs.Decimal.{Decimal}
use Rattle.hl_num.specs.Printing.{printed_number}
use Rattle.book.specs.declared.amount.Amount.{Amount}
use Rattle.book.specs.declared.amount.Written.{Written}
use Rattle.book.specs.Printed.{mark_of, number_shape, with_symbol}

-- how many of some decimals are left without the zeros at their end
abbrev pub places_needed : ℕ → ℕ → ℕ
places_needed magnitude zero = 0
places_needed magnitude (suc places) = if magnitude % 10 == 0 then places_needed (magnitude / 10) places else suc places

-- an amount's own decimals: as it is written; of one that was found, those that its value needs
abbrev pub own_places : Bool → Decimal → ℕ
own_places true value = places_needed (unsigned_abs value.mantissa) value.places
own_places false value = value.places

-- the group mark stands in a number
abbrev pub has_group_mark : Option ℕ → List ℕ → Bool
has_group_mark None number = false
has_group_mark (Some mark) number = list_any (λ b. b == mark) number

-- a number without decimals in which a group mark stands ends with the decimal mark
abbrev pub last_mark : Written → ℕ → List ℕ → List ℕ
last_mark shape places number =
    if (places == 0) && has_group_mark shape.group number then encode_utf8 (mark_of shape.mark shape.group) else []

-- a number in a shape, with so many decimals
abbrev pub number_text : Written → ℕ → Decimal → List ℕ
number_text shape places value =
    let number = printed_number value places (number_shape shape) in
    number ++ last_mark shape places number

-- an amount in a shape, with its own decimals
abbrev pub amount_text : Written → Bool → Amount → List ℕ
amount_text shape is_found a = with_symbol shape a.symbol (number_text shape (own_places is_found a.value) a.value)
