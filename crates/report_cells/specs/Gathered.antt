-- Sums that are gathered while takings come, one after another.
use Rattle.std.specs.Prelude.{◌≡◌, Bool, false, ◌||◌, if◌then◌else◌, List, [], ◌∷◌, ◌++◌, length}
use Rattle.std.specs.List.{AllByRecursion}
use Rattle.hl_time.specs.declared.spans.Span.{Span}
use Rattle.report_cells.specs.Follows.{Follow}
use Rattle.report_cells.specs.Kept.{KeptRows, HasFewPlaces, row_with}
use Rattle.report_cells.specs.Places.{place}
use Rattle.report_cells.specs.Taken.{Taken}
use Rattle.report_cells.specs.Turned.{Turnovers, fills, turned_with}
use Rattle.report_cells.specs.declared.reach.Reach.{Reach}

-- the rows of accounts, the absolute amounts of symbols, whether those of a symbol are too large, and the columns
pub record Gathered : Type 0 where
  pub rows : KeptRows
  pub turnovers : Turnovers
  pub full : Bool
  pub columns : List Span
  pub reach : Reach

-- those of a symbol are too large after a taking
abbrev pub full_with : Taken → Gathered → Bool
full_with t g = g.full || fills t.amount g.turnovers

-- what is gathered after a taking; rows are kept up as long as no symbol's amounts are too large
abbrev pub gathered_with : Taken → Gathered → Gathered
gathered_with t g = record {
  rows = if full_with t g then g.rows else row_with (length g.columns) (place g.reach g.columns t.day) t g.rows;
  turnovers = turned_with t.amount g.turnovers;
  full = full_with t g;
  columns = g.columns;
  reach = g.reach;
}

-- after each of some takings
abbrev pub gathered_from : Gathered → List Taken → Gathered
gathered_from g [] = g
gathered_from g (t ∷ ts) = gathered_from (gathered_with t g) ts

-- before any taking
abbrev pub not_begun : List Span → Reach → Gathered
not_begun columns reach = record { rows = []; turnovers = []; full = false; columns = columns; reach = reach }

-- What is gathered of these takings by these columns, which follow one another; no amount has more than 36 decimals.
pub record Gathers (columns : List Span) (reach : Reach) (ts : List Taken) (g : Gathered) : Type 0 where
  pub is : g ≡ gathered_from (not_begun columns reach) ts
  pub few : AllByRecursion (λ t. HasFewPlaces t.amount) ts
  pub follow : Follow columns

-- it is of some takings
abbrev pub IsBegun : Gathered → Type 0
IsBegun g = (columns : List Span) × (reach : Reach) × (ts : List Taken) × Gathers columns reach ts g

-- these takings came in between
abbrev pub Adds : Gathered → List Taken → Gathered → Type 0
Adds old more new =
    (columns : List Span) (reach : Reach) (ts : List Taken) → Gathers columns reach ts old → Gathers columns reach (ts ++ more) new
