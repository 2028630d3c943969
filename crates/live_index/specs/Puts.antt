-- The rows that were put in, in turn.
use Rattle.std.specs.Prelude.{List, [], ◌∷◌, ◌++◌, Option, None, Some}
use Rattle.std.specs.Option.{option_to_list}
use Rattle.live_index.specs.declared.row.Row.{Row}

-- at each step a row, or none
abbrev pub steps : Option (List (List Row) × Option Row) → List (List Row)
steps None = []
steps (Some last) = last.0 ++ option_to_list last.1 ∷ []

-- the rows of all steps
abbrev pub rows_put : List (List Row) → List Row
rows_put [] = []
rows_put (rows ∷ more) = rows ++ rows_put more
