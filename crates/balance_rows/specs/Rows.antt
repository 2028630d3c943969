-- Rows of a report: an account or its name, with a cell for each column.
use Rattle.std.specs.Prelude.{ℕ, Bool, ◌||◌, true, false, List, [], ◌∷◌, map, filter, slice_index_or}
use Rattle.std.specs.List.{list_any}
use Rattle.report_cells.specs.Report.{Sums}

abbrev pub Row : Type 0
Row = List ℕ × List Sums

-- it has a sum that isn't zero
abbrev pub has_sums : Sums → Bool
has_sums [] = false
has_sums (sum ∷ sums) = true

-- some cell has one
abbrev pub is_shown : Row → Bool
is_shown row = list_any has_sums row.1

-- the rows that stay: those with a sum, or all
abbrev pub shown_rows : Bool → List Row → List Row
shown_rows empty rows = filter (λ row. empty || is_shown row) rows

-- a row's cell in a column; a row that has none there has no sums
abbrev pub cell_at : ℕ → List Sums → Sums
cell_at at cells = slice_index_or cells at []

-- the sums of the first column
abbrev pub first_cell : List Sums → Sums
first_cell cells = cell_at 0 cells
