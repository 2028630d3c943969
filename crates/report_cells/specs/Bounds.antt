-- Amounts that are too large to sum.
use Rattle.std.specs.Prelude.{ℕ, ◌+◌, ◌-◌, ◌*◌, ◌^◌, ◌<◌, max, Bool, nat_le, List, [], ◌∷◌, Option, Some, None, find, if◌then◌else◌, unsigned_abs}
use Rattle.std.specs.Str.{bytes_eq}
use Rattle.report_cells.specs.Taken.{Shared, Taken, share_in, symbols_in}

-- the sum of the absolute amounts in a symbol, in units of 10^-36
abbrev pub turnover_in : List ℕ → List Taken → ℕ
turnover_in symbol [] = 0
turnover_in symbol (t ∷ ts) = unsigned_abs (share_in symbol t.amount) + turnover_in symbol ts

-- how many decimals an amount in a symbol has, also one that is zero
abbrev pub places_at : List ℕ → Option Shared → ℕ
places_at symbol None = 0
places_at symbol (Some share) = if bytes_eq share.0 symbol then share.1.places else 0

-- the greatest number of decimals in a symbol
abbrev pub places_in : List ℕ → List Taken → ℕ
places_in symbol [] = 0
places_in symbol (t ∷ ts) = max (places_at symbol t.amount) (places_in symbol ts)

-- the absolute amounts in a symbol sum to 2^127 or more, in units of the greatest number of decimals
abbrev pub is_out : List Taken → List ℕ → Bool
is_out ts symbol = nat_le (2 ^ 127 * 10 ^ (36 - places_in symbol ts)) (turnover_in symbol ts)

-- the least symbol of these, by the order of its bytes
abbrev pub first_out : List Taken → Option (List ℕ)
first_out ts = find (is_out ts) (symbols_in ts)

-- In each symbol the absolute amounts, in units of the greatest number of decimals, sum to less than 2^127.
abbrev pub TurnoverFits : List Taken → Type 0
TurnoverFits ts = (symbol : List ℕ) → turnover_in symbol ts < 2 ^ 127 * 10 ^ (36 - places_in symbol ts)
