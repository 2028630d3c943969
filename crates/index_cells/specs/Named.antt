-- Takings that only name.
use Rattle.std.specs.Prelude.{ℕ, List, [], ◌∷◌, Option, Some, None}
use Rattle.std.specs.List.{flat_map}
use Rattle.report_cells.specs.Taken.{Shared, Taken}

-- without the amount
abbrev pub named : Taken → Taken
named t = record { account = t.account; day = t.day; amount = None }

-- under the symbol of an amount in place of an account
abbrev pub by_symbol : ℕ → Option Shared → List Taken
by_symbol day None = []
by_symbol day (Some share) = record { account = share.0; day = day; amount = None } ∷ []

abbrev pub by_symbols : List Taken → List Taken
by_symbols ts = flat_map (λ t. by_symbol t.day t.amount) ts

-- a taking of an account alone
abbrev pub only : List ℕ → Taken
only name = record { account = name; day = 0; amount = None }
