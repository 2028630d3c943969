-- Exact decimals, as contracts see them.
use Rattle.std.specs.Prelude.{ℕ, ℤ, pos, ◌+◌, ◌*◌, ◌%◌, ◌-◌, ◌^◌, ◌<◌, ◌≤◌, ◌+ℤ◌, ◌*ℤ◌, Bool, ◌&&◌, nat_lt, nat_le, neg_ℤ, max, unsigned_abs}

-- `mantissa / 10 ^ places`
pub record Decimal : Type 0 where
  pub mantissa : ℤ
  pub places : ℕ

-- what is true of each `Dec`
pub record IsInBounds (mantissa : ℤ) (places : ℕ) : Type 0 where
  pub mantissa_bound : unsigned_abs mantissa < 2 ^ 127
  pub places_bound : places ≤ 36

-- the same as a test
abbrev pub in_bounds : ℤ → ℕ → Bool
in_bounds mantissa places = nat_lt (unsigned_abs mantissa) (2 ^ 127) && nat_le places 36

-- the exact value, in units of 10 ^ -36
abbrev pub units_of : Decimal → ℤ
units_of d = d.mantissa *ℤ pos (10 ^ (36 - d.places))

-- the number with the other sign
abbrev pub negated : Decimal → Decimal
negated d = record { mantissa = neg_ℤ d.mantissa; places = d.places }

-- the mantissa that the value has with more places
abbrev pub mantissa_at : Decimal → ℕ → ℤ
mantissa_at d places = d.mantissa *ℤ pos (10 ^ (places - d.places))

-- the mantissas of the terms and of the sum, at that number of places, stay below 2 ^ 127
abbrev pub sum_fits_at : Decimal → Decimal → ℕ → Bool
sum_fits_at a b places =
    nat_lt (unsigned_abs (mantissa_at a places)) (2 ^ 127)
    && nat_lt (unsigned_abs (mantissa_at b places)) (2 ^ 127)
    && nat_lt (unsigned_abs (mantissa_at a places +ℤ mantissa_at b places)) (2 ^ 127)

-- the same at the greater number of places of the two
abbrev pub add_fits : Decimal → Decimal → Bool
add_fits a b = sum_fits_at a b (max a.places b.places)

-- no zero stands at the end of the decimals
abbrev pub IsTrimmed : Decimal → Type 0
IsTrimmed d = 0 < d.places → 0 < unsigned_abs d.mantissa % 10

-- the product of the mantissas stays below 2 ^ 127, and the places sum to at most 36
abbrev pub mul_fits : Decimal → Decimal → Bool
mul_fits a b = nat_lt (unsigned_abs a.mantissa * unsigned_abs b.mantissa) (2 ^ 127) && nat_le (a.places + b.places) 36
