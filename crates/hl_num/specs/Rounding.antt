-- Quotients that are rounded to the nearest, a half going to the even one.
use Rattle.std.specs.Prelude.{ℕ, ℤ, pos, neg_ℤ, ◌≡◌, ◌+◌, ◌-◌, ◌*◌, ◌/◌, ◌%◌, ◌^◌, ◌≤◌, ◌-ℤ◌, ◌*ℤ◌, Bool, nat_lt, nat_le, int_lt, unsigned_abs, if◌then◌else◌}
use Rattle.hl_num.specs.Decimal.{Decimal, units_of}

-- n / d, rounded half to even
abbrev pub half_even : ℕ → ℕ → ℕ
half_even n d =
    let rest = 2 * (n % d) in
    if nat_lt rest d then n / d else (if nat_lt d rest then n / d + 1 else n / d + n / d % 2)

-- a magnitude with its sign
abbrev pub with_sign : Bool → ℕ → ℤ
with_sign is_negative n = if is_negative then neg_ℤ (pos n) else pos n

-- the same of an integer
abbrev pub signed_half_even : ℤ → ℕ → ℤ
signed_half_even z d = with_sign (int_lt z (pos 0)) (half_even (unsigned_abs z) d)

-- a number with at most so many places: itself, or the one that it is rounded to
abbrev pub rounded : Decimal → ℕ → Decimal
rounded d places =
    if nat_le d.places places then d
    else record { mantissa = signed_half_even d.mantissa (10 ^ (d.places - places)); places = places }

-- how far two values are apart
abbrev pub distance : ℤ → ℤ → ℕ
distance x y = unsigned_abs (x -ℤ y)

-- the value of `result` is a nearest one among those of so many places, and where another is as near, it is even
pub record IsNearest (value : Decimal) (places : ℕ) (result : Decimal) : Type 0 where
  -- `other` counts units of 10 ^ -places
  pub nearest : (other : ℤ) → distance (units_of value) (units_of result) ≤ distance (units_of value) (other *ℤ pos (10 ^ (36 - places)))
  pub tie_to_even : 2 * distance (units_of value) (units_of result) ≡ 10 ^ (36 - places) → unsigned_abs result.mantissa % 2 ≡ 0
