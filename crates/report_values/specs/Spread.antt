-- The sums of a report as takings: each of its account, with the number of its column as its day.
use Rattle.std.specs.Prelude.{ℕ, ℤ, ◌+◌, List, [], ◌∷◌, ◌++◌, map, Some, None}
use Rattle.std.specs.List.{flat_map}
use Rattle.entry_balance.specs.Values.{trimmed}
use Rattle.report_cells.specs.Report.{Sums}
use Rattle.report_cells.specs.Taken.{Taken}

-- an account, which a report shows without sums too
abbrev pub bare : List ℕ → Taken
bare account = record { account = account; day = 0; amount = None }

-- a sum, in as few decimals as it needs
abbrev pub summed : List ℕ → ℕ → List ℕ × ℤ → Taken
summed account number sum = record { account = account; day = number; amount = Some (sum.0, trimmed sum.1 36) }

-- the sums of an account in its columns, from a number on
abbrev pub cells_from : List ℕ → ℕ → List (List (List ℕ × ℤ)) → List Taken
cells_from account number [] = []
cells_from account number (cell ∷ cells) = map (summed account number) cell ++ cells_from account (number + 1) cells

-- a row: its account, and the sums of its columns
abbrev pub spread_row : List ℕ × List (List (List ℕ × ℤ)) → List Taken
spread_row row = bare row.0 ∷ cells_from row.0 0 row.1

abbrev pub spread : List (List ℕ × List (List (List ℕ × ℤ))) → List Taken
spread rows = flat_map spread_row rows
