-- Rows whose sums are far from the bound on turnovers.
use Rattle.std.specs.Prelude.{◌≤◌, ◌^◌, List, [], ◌∷◌, length, unsigned_abs}
use Rattle.live_index.specs.declared.row.Row.{Row}

-- at most two decimals, and a mantissa of at most 31 bits
pub record IsSmall (row : Row) : Type 0 where
  pub mantissa : unsigned_abs row.value.mantissa ≤ 2 ^ 31
  pub places : row.value.places ≤ 2

abbrev pub AllSmall : List Row → Type 0
AllSmall [] = Unit {0}
AllSmall (row ∷ rows) = IsSmall row × AllSmall rows

-- at most a million such rows
pub record AreSmall (rows : List Row) : Type 0 where
  pub few : length rows ≤ 1000000
  pub small : AllSmall rows
