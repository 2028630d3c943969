-- Values of amounts.
use Rattle.std.specs.Prelude.{ℕ, pos, ◌*◌, ◌^◌, ◌*ℤ◌, Bool, ◌&&◌, nat_lt, unsigned_abs, if◌then◌else◌, Result, Ok, Err}
use Rattle.hl_num.specs.Decimal.{Decimal}
use Rattle.hl_num.specs.Rounding.{signed_half_even}
use Rattle.hl_num.specs.declared.arithmetic.DivRange.{DivRange}
use Rattle.prices.specs.Fraction.{Fraction}

-- the number and the divisor stay below 2 ^ 127
abbrev pub value_fits : Decimal → Fraction → ℕ → Bool
value_fits amount rate places =
    nat_lt (unsigned_abs amount.mantissa * unsigned_abs rate.num * 10 ^ places) (2 ^ 127)
    && nat_lt (unsigned_abs rate.den * 10 ^ amount.places) (2 ^ 127)

-- an amount times a rate, rounded half to even once
abbrev pub valued : Decimal → Fraction → ℕ → Result Decimal DivRange
valued amount rate places =
    if value_fits amount rate places
    then Ok (record { mantissa = signed_half_even (amount.mantissa *ℤ rate.num *ℤ pos (10 ^ places)) (unsigned_abs rate.den * 10 ^ amount.places); places = places })
    else Err (record { num = rate.num; den = rate.den })
