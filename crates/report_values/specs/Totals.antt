-- The sums of the absolute amounts of each symbol, while takings are read.
use Rattle.std.specs.Prelude.{◌≡◌, ℕ, pos, ◌+◌, ◌-◌, ◌*◌, ◌^◌, ◌<◌, ◌≤◌, Bool, true, false, List, Option, Some, None, unsigned_abs}
use Rattle.hl_num.specs.Decimal.{Decimal, units_of}
use Rattle.report_cells.specs.Bounds.{turnover_in, places_in}
use Rattle.report_cells.specs.Taken.{Taken}
use Rattle.report_values.specs.Known.{kept_at}

-- a number without its sign
abbrev pub absolute : Decimal → Decimal
absolute d = record { mantissa = pos (unsigned_abs d.mantissa); places = d.places }

-- the sum of no amounts
abbrev pub no_total : Option Decimal
no_total = Some (record { mantissa = pos 0; places = 0 })

-- a sum of so much, in units of so many decimals, or that it is too large
abbrev pub IsTotal : Option Decimal → ℕ → ℕ → Type 0
IsTotal None turnover places = 2 ^ 127 * 10 ^ (36 - places) ≤ turnover
IsTotal (Some sum) turnover places = (units_of sum ≡ pos turnover) × (sum.places ≡ places) × (unsigned_abs sum.mantissa < 2 ^ 127)

-- what is kept of a symbol: its sum, or nothing where it has no amount
abbrev pub HoldsTotal : Option (Option Decimal) → ℕ → ℕ → Type 0
HoldsTotal None turnover places = (turnover ≡ 0) × (places ≡ 0)
HoldsTotal (Some total) turnover places = IsTotal total turnover places

-- the sums that are kept, each under day 0 and its symbol
abbrev pub Totals : Type 0
Totals = List ((ℕ × List ℕ) × Option Decimal)

-- the kept sums are those of some takings
abbrev pub AreTotals : Totals → List Taken → Type 0
AreTotals kept ts = (symbol : List ℕ) → HoldsTotal (kept_at kept 0 symbol) (turnover_in symbol ts) (places_in symbol ts)

-- a sum that is kept is too large
abbrev pub is_full : Option (Option Decimal) → Bool
is_full None = false
is_full (Some None) = true
is_full (Some (Some sum)) = false
