-- The tree of accounts: each account and each of its parents, with the sums of all that lies below.
use Rattle.std.specs.Prelude.{ℕ, ◌+◌, ◌*◌, ◌==◌, Bool, List, [], ◌∷◌, ◌++◌, length, count_by, map, filter, not, take, replicate, slice_index_or}
use Rattle.std.specs.List.{flat_map, range_with_len, after_last, list_any}
use Rattle.std.specs.Str.{bytes_eq}
use Rattle.hl_base.specs.Ascii.{colon, space}
use Rattle.book.specs.Accounts.{account_cmp}
use Rattle.book.specs.Order.{each_once}
use Rattle.report_cells.specs.Report.{Sums}
use Rattle.balance_rows.specs.Sums.{summed}
use Rattle.balance_rows.specs.Rows.{Row, cell_at}

-- a colon stands at a place of a name
abbrev pub is_colon_at : List ℕ → ℕ → Bool
is_colon_at account at = slice_index_or account at 0 == colon

-- the accounts above one: what stands before each colon of its name
abbrev pub parents : List ℕ → List (List ℕ)
parents account = map (λ at. take at account) (filter (is_colon_at account) (range_with_len 0 (length account)))

-- those and the account itself
abbrev pub lineage : List ℕ → List (List ℕ)
lineage account = parents account ++ account ∷ []

-- a row's cells count for its account and for each account above it
abbrev pub given : Row → List Row
given row = map (λ account. (account, row.1)) (lineage row.0)

-- the rows of a name
abbrev pub of_name : List ℕ → List Row → List Row
of_name name rows = filter (λ row. bytes_eq row.0 name) rows

-- the sums of each of so many columns
abbrev pub column_sums : ℕ → List Row → List Sums
column_sums columns rows = map (λ at. summed (map (λ row. cell_at at row.1) rows)) (range_with_len 0 columns)

-- a row for each name, in the order of accounts, with the sums of its rows
abbrev pub joined : ℕ → List Row → List Row
joined columns rows =
    map (λ name. (name, column_sums columns (of_name name rows))) (each_once account_cmp (map (λ row. row.0) rows))

-- The rows of a tree.
abbrev pub tree : ℕ → List Row → List Row
tree columns rows = joined columns (flat_map given rows)

-- how many accounts lie above one: as many as there are colons
abbrev pub level : List ℕ → ℕ
level account = count_by (λ b. b == colon) account

-- an account lies above it
abbrev pub has_parent : List ℕ → Bool
has_parent account = list_any (λ b. b == colon) account

-- the rows that have no parent
abbrev pub roots : List Row → List Row
roots rows = filter (λ row. not (has_parent row.0)) rows

-- the last part of a name
abbrev pub last_part : List ℕ → List ℕ
last_part account = after_last (λ b. b == colon) account

-- how a tree shows an account: its last part, after two spaces for each level
abbrev pub indented : List ℕ → List ℕ
indented account = replicate (2 * level account) space ++ last_part account
