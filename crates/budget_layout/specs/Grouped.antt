-- Rows that are grouped by the places of the goals that they count for.
use Rattle.std.specs.Prelude.{ℕ, ◌+◌, ◌==◌, Bool, false, is_none, List, [], ◌∷◌, ◌++◌, map, filter, take, length, set, slice_index_or, Option, Some, None, if◌then◌else◌}
use Rattle.std.specs.List.{range_with_len}
use Rattle.std.specs.Option.{option_or}
use Rattle.std.specs.Str.{bytes_eq}
use Rattle.report_cells.specs.Report.{Sums}
use Rattle.report_cells.specs.declared.cells.CellRow.{CellRow}
use Rattle.balance_rows.specs.Rows.{Row}
use Rattle.balance_rows.specs.Trees.{is_colon_at}

-- the accounts of some rows
abbrev pub names_of : List CellRow → List (List ℕ)
names_of rows = map (λ row. row.account) rows

-- the place of a name among some that stand from a place on
abbrev pub place_from : ℕ → List (List ℕ) → List ℕ → Option ℕ
place_from at [] name = None
place_from at (other ∷ others) name = if bytes_eq name other then Some at else place_from (at + 1) others name

-- the place of the last of some accounts that has one
abbrev pub last_place : (List ℕ → Option ℕ) → List (List ℕ) → Option ℕ
last_place place [] = None
last_place place (account ∷ accounts) = option_or (last_place place accounts) (place account)

-- what stands before the first colons of a name, up to a place
abbrev pub fronts : List ℕ → ℕ → List (List ℕ)
fronts account n = map (λ at. take at account) (filter (is_colon_at account) (range_with_len 0 n))

-- the place of the account whose name ends there, if one does and has a place
abbrev pub place_above : (List ℕ → Option ℕ) → List ℕ → ℕ → Option ℕ
place_above place account at = if is_colon_at account at then place (take at account) else None

-- the place of an account, or else of the nearest above it that has one
abbrev pub place_for : (List ℕ → Option ℕ) → List ℕ → Option ℕ
place_for place account = option_or (place account) (last_place place (fronts account (length account)))

abbrev pub is_at : ℕ → Option ℕ → Bool
is_at at None = false
is_at at (Some other) = other == at

-- the rows of a place, of so many places, and of none
abbrev pub group_at : (List ℕ → Option ℕ) → List CellRow → ℕ → List CellRow
group_at place rows at = filter (λ row. is_at at (place_for place row.account)) rows

abbrev pub groups_of : (List ℕ → Option ℕ) → ℕ → List CellRow → List (List CellRow)
groups_of place count rows = map (group_at place rows) (range_with_len 0 count)

abbrev pub ungrouped : (List ℕ → Option ℕ) → List CellRow → List CellRow
ungrouped place rows = filter (λ row. is_none (place_for place row.account)) rows

-- groups with a row more
abbrev pub with_row : Option ℕ → CellRow → List (List CellRow) → List (List CellRow)
with_row None row groups = groups
with_row (Some at) row groups = set groups at (slice_index_or groups at [] ++ row ∷ [])

abbrev pub with_rest : Option ℕ → CellRow → List CellRow → List CellRow
with_rest None row rest = rest ++ row ∷ []
with_rest (Some at) row rest = rest

-- the group at a place, if there is one
abbrev pub rows_at : Option ℕ → List (List CellRow) → List CellRow
rows_at None groups = []
rows_at (Some at) groups = slice_index_or groups at []

-- the cells of the row at a place
abbrev pub cells_at : Option ℕ → List Row → List Sums
cells_at None rows = []
cells_at (Some at) rows = (slice_index_or rows at ([], [])).1
