-- Takings as rows.
use Rattle.std.specs.Prelude.{ℕ, List, [], ◌∷◌, Option, Some, None, map}
use Rattle.std.specs.List.{flat_map}
use Rattle.live_index.specs.declared.row.Row.{Row}
use Rattle.live_index.specs.Net.{negated_row}
use Rattle.report_cells.specs.Taken.{Shared, Taken}

abbrev pub rowed : List ℕ → ℕ → Option Shared → List Row
rowed account day None = []
rowed account day (Some share) =
    record { account = account; symbol = share.0; day = record { 0 = day }; value = share.1 } ∷ []

-- a row for each amount
abbrev pub rowed_all : List Taken → List Row
rowed_all ts = flat_map (λ t. rowed t.account t.day t.amount) ts

-- the rows that take off those of some takings
abbrev pub rowed_off : List Taken → List Row
rowed_off ts = flat_map (λ t. map negated_row (rowed t.account t.day t.amount)) ts
