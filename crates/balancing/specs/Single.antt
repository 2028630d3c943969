-- Sums of symbols, of which the only one stands by itself.
use Rattle.std.specs.Prelude.{ℕ, Bool, true, false, List, [], ◌∷◌, Option, Some, None}
use Rattle.std.specs.Str.{bytes_eq}
use Rattle.hl_num.specs.Decimal.{Decimal}
use Rattle.entry_balance.specs.Values.{Value}

-- the only sum, if there is one
abbrev pub single : Option (List ℕ × Decimal) → List Value
single None = []
single (Some sum) = sum ∷ []

-- all sums, or the only one where there aren't many
abbrev pub all_sums : Bool → Option (List ℕ × Decimal) → List Value → List Value
all_sums true only totals = totals
all_sums false only totals = single only

-- a number of a symbol goes on with the only sum, or is the first
abbrev pub takes : Option (List ℕ × Decimal) → List ℕ → Bool
takes None symbol = true
takes (Some sum) symbol = bytes_eq symbol sum.0
