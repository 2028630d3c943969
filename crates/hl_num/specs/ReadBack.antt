-- What reading makes of a number that was printed.
use Rattle.std.specs.Prelude.{◌≡◌, ◌≤◌, ◌<◌, ◌-◌, ◌^◌, ℕ, pos, false, true, List, Option, Some, None, nat_lt, if◌then◌else◌, unsigned_abs, int_lt}
use Rattle.hl_num.specs.declared.printing.Shape.{Shape}
use Rattle.hl_num.specs.declared.reading.Number.{Number}
use Rattle.hl_num.specs.Decimal.{Decimal, units_of}
use Rattle.hl_num.specs.Reading.{is_mark, number_of}
use Rattle.hl_num.specs.Rounding.{half_even}

-- a magnitude in units of 10 ^ -places, rounded half to even
abbrev pub rounded_magnitude : Decimal → ℕ → ℕ
rounded_magnitude value places = half_even (unsigned_abs (units_of value)) (10 ^ (36 - places))

-- a number of units of 10 ^ -places, as it is read where it stands with that decimal mark and without groups
abbrev pub plain_number : ℕ → ℕ → ℕ → Number
plain_number n places mark = record {
  value = record { mantissa = pos n; places = places };
  mark = if nat_lt 0 places then Some mark else None;
  group = None;
  first = 3;
  rest = 3;
}

-- The text of a value that isn't below zero, printed without group marks to at most 18 places, reads back as the rounded
-- value, with the mark that it is printed with, where its digits without the mark are below 2^127.
abbrev pub ReadsBack : Decimal → ℕ → Shape → List ℕ → Type 0
ReadsBack value places shape text =
    int_lt (units_of value) (pos 0) ≡ false → places ≤ 18 → rounded_magnitude value places < 2 ^ 127
    → shape.group ≡ None → is_mark shape.mark ≡ true
    → number_of text (Some shape.mark) ≡ Some (plain_number (rounded_magnitude value places) places shape.mark)
