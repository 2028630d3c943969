-- Rows that are grouped by the accounts that they count for.
use Rattle.std.specs.Prelude.{ℕ, List, [], ◌∷◌, ◌++◌, if◌then◌else◌, map, take, Option, unwrap_or, T}
use Rattle.std.specs.List.{AllByRecursion, fold, range_with_len}
use Rattle.std.specs.FinMap.Entries.{find, put, is_sorted}
use Rattle.book.specs.Accounts.{account_cmp}
use Rattle.report_cells.specs.declared.cells.CellRow.{CellRow}
use Rattle.balance_rows.specs.Kept.{KeptSums, EachFits, added_all, all_entries, kept_at}
use Rattle.balance_rows.specs.Trees.{is_colon_at, lineage}

abbrev pub KeptCells : Type 0
KeptCells = List KeptSums

-- accounts with the cells that count for them
abbrev pub Groups : Type 0
Groups = List (List ℕ × List KeptCells)

-- the accounts rise in their order
abbrev pub AreOrdered : Groups → Type 0
AreOrdered groups = T (is_sorted account_cmp groups)

abbrev pub group_at : List ℕ → Groups → List KeptCells
group_at account groups = unwrap_or (find account_cmp account groups) []

-- the groups with cells more for an account
abbrev pub group_with : Groups → List ℕ × KeptCells → Groups
group_with groups item = put account_cmp item.0 (group_at item.0 groups ++ item.1 ∷ []) groups

-- what a row gives to its account and to each account above it
abbrev pub kept_given : CellRow → List (List ℕ × KeptCells)
kept_given row = map (λ account. (account, row.cells)) (lineage row.account)

-- what the account is given whose name ends at a place of another one, if one does
abbrev pub given_at : List ℕ → KeptCells → ℕ → List (List ℕ × KeptCells)
given_at account cells at = if is_colon_at account at then (take at account, cells) ∷ [] else []

abbrev pub grouped : List (List ℕ × KeptCells) → Groups
grouped items = fold group_with [] items

-- the sums of each column of some cells
abbrev pub group_sums : ℕ → List KeptCells → KeptCells
group_sums columns rows = map (λ at. added_all [] (all_entries (map (kept_at at) rows))) (range_with_len 0 columns)

-- the row of a group
abbrev pub group_row : ℕ → List ℕ × List KeptCells → CellRow
group_row columns group = record { account = group.0; cells = group_sums columns group.1 }

-- each column of each group can be summed
abbrev pub ColumnsAdd : Groups → Type 0
ColumnsAdd groups = AllByRecursion (λ group. (at : ℕ) → EachFits [] (all_entries (map (kept_at at) group.1))) groups
