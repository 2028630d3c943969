-- Maps whose keys are texts, by their bytes.
use Rattle.std.specs.Prelude.{ℕ, List, map, String, Vec, string_bytes}
use Rattle.std.specs.Global.{Global}
use Rattle.entry_balance.specs.Values.{Value}
use Rattle.hl_num.specs.Decimal.{Decimal}

-- the numbers of symbols
abbrev pub values_in : List (String Global × Decimal) → List Value
values_in entries = map (λ e. (string_bytes e.0, e.1)) entries

-- names as bytes
abbrev pub names_in : List (Vec ℕ Global) → List (List ℕ)
names_in names = map (λ n. n.items) names

-- the places of names
abbrev pub places_in : List (Vec ℕ Global × ℕ) → List (List ℕ × ℕ)
places_in entries = map (λ e. (e.0.items, e.1)) entries
