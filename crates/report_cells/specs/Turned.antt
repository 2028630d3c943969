-- The absolute amounts of each symbol while takings are read, one after another.
use Rattle.std.specs.Prelude.{ℕ, ◌+◌, ◌-◌, ◌*◌, ◌^◌, min, max, Bool, false, nat_le, List, Option, Some, None, unwrap_or, find, unsigned_abs}
use Rattle.std.specs.Ordering.{nat_cmp}
use Rattle.std.specs.Cmp.Lexicographic.{slice_cmp}
use Rattle.std.specs.FinMap.Entries as entries
use Rattle.std.specs.Option.{option_map}
use Rattle.hl_num.specs.Decimal.{Decimal}
use Rattle.report_cells.specs.Taken.{Shared}

-- n * 10 ^ more, or 2 ^ 127 where that is less
abbrev pub scaled : ℕ → ℕ → ℕ
scaled n more = min (2 ^ 127) (n * 10 ^ more)

-- a number of decimals, and a sum in units of it that is at most 2 ^ 127, after one more absolute amount
abbrev pub turned : ℕ × ℕ → Decimal → ℕ × ℕ
turned t d =
    let places = max t.0 d.places in
    (places, min (2 ^ 127) (scaled t.1 (places - t.0) + scaled (unsigned_abs d.mantissa) (places - d.places)))

-- the sum is too large
abbrev pub is_full : ℕ × ℕ → Bool
is_full t = nat_le (2 ^ 127) t.1

-- those of all symbols
abbrev pub Turnovers : Type 0
Turnovers = List (List ℕ × (ℕ × ℕ))

-- the first symbol whose sum is too large
abbrev pub first_full : Turnovers → Option (List ℕ)
first_full kept = option_map (λ e. e.0) (find (λ e. is_full e.1) kept)

-- after an amount, if it is there
abbrev pub turned_with : Option Shared → Turnovers → Turnovers
turned_with None kept = kept
turned_with (Some share) kept =
    entries.put (slice_cmp nat_cmp) share.0 (turned (unwrap_or (entries.find (slice_cmp nat_cmp) share.0 kept) (0, 0)) share.1) kept

-- an amount makes those of its symbol too large
abbrev pub fills : Option Shared → Turnovers → Bool
fills None kept = false
fills (Some share) kept =
    is_full (turned (unwrap_or (entries.find (slice_cmp nat_cmp) share.0 kept) (0, 0)) share.1)
