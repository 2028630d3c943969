-- Fractions in lowest terms, and their products.
use Rattle.std.specs.Prelude.{ℕ, ℤ, pos, zero, suc, ◌*◌, ◌/◌, ◌%◌, ◌^◌, ◌*ℤ◌, Bool, ◌&&◌, nat_lt, int_lt, ◌==◌, if◌then◌else◌, unsigned_abs, List, [], ◌∷◌, Result, Ok, Err}
use Rattle.hl_num.specs.Decimal.{Decimal}
use Rattle.hl_num.specs.Rounding.{with_sign}
use Rattle.prices.specs.Fraction.{Fraction}
use Rattle.prices.specs.declared.rate.RateRange.{RateRange}

-- what is left of two numbers after at most so many divisions with remainder
abbrev pub gcd_within : ℕ → ℕ → ℕ → ℕ
gcd_within zero a b = a
gcd_within (suc bound) a b = if b == 0 then a else gcd_within bound b (a % b)

-- the greatest common divisor, by Euclid
unfoldable pub gcd : ℕ → ℕ → ℕ
gcd a b = gcd_within b a b

-- num / den in lowest terms
abbrev pub reduced : ℤ → ℕ → Fraction
reduced num den =
    let divisor = gcd (unsigned_abs num) den in
    record { num = with_sign (int_lt num (pos 0)) (unsigned_abs num / divisor); den = pos (den / divisor) }

-- what one unit is worth by its price
abbrev pub declared_rate : Decimal → Fraction
declared_rate price = reduced price.mantissa (10 ^ price.places)

-- what one unit of the other symbol is worth, where the price isn't zero
abbrev pub reverse_rate : Decimal → Fraction
reverse_rate price = reduced (with_sign (int_lt price.mantissa (pos 0)) (10 ^ price.places)) (unsigned_abs price.mantissa)

-- neither the product of the numerators nor that of the denominators reaches 2 ^ 127
abbrev pub product_fits : Fraction → Fraction → Bool
product_fits a b =
    nat_lt (unsigned_abs a.num * unsigned_abs b.num) (2 ^ 127)
    && nat_lt (unsigned_abs a.den * unsigned_abs b.den) (2 ^ 127)

-- the product in lowest terms
abbrev pub product : Fraction → Fraction → Fraction
product a b = reduced (a.num *ℤ b.num) (unsigned_abs a.den * unsigned_abs b.den)

-- the product of a fraction and those that follow, reduced at each step, or the fraction to which the next couldn't be
-- multiplied
abbrev pub product_from : Fraction → List Fraction → Result Fraction RateRange
product_from so_far [] = Ok so_far
product_from so_far (rate ∷ rates) =
    if product_fits so_far rate then product_from (product so_far rate) rates
    else Err (record { num = so_far.num; den = so_far.den })

-- the product of some rates
abbrev pub product_of : List Fraction → Result Fraction RateRange
product_of rates = product_from (record { num = pos 1; den = pos 1 }) rates
