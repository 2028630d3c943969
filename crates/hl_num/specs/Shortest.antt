-- Values with no more decimals than they need.
use Rattle.std.specs.Prelude.{ℕ, zero, suc, ℤ, pos, ◌/◌, ◌%◌, ◌==◌, int_lt, if◌then◌else◌, unsigned_abs}
use Rattle.hl_num.specs.Decimal.{Decimal}
use Rattle.hl_num.specs.Rounding.{with_sign}

-- a number of so many places, without zeros at the end of its decimals
abbrev pub trimmed : ℤ → ℕ → Decimal
trimmed m zero = record { mantissa = m; places = 0 }
trimmed m (suc n) =
    if unsigned_abs m % 10 == 0 then trimmed (with_sign (int_lt m (pos 0)) (unsigned_abs m / 10)) n
    else record { mantissa = m; places = suc n }

-- a value in units of 10^-36, with no more decimals than it needs
unfoldable pub shortest : ℤ → Decimal
shortest units = trimmed units 36
