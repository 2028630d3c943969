-- Which cells can be summed: those whose absolute values don't reach the bound.
use Rattle.std.specs.Prelude.{◌≡◌, ℕ, ℤ, ◌+◌, ◌-◌, ◌*◌, ◌%◌, ◌^◌, ◌<◌, ◌≤◌, List, [], ◌∷◌, map, unsigned_abs}
use Rattle.std.specs.List.{AllByRecursion}
use Rattle.report_cells.specs.Report.{Sums}
use Rattle.balance_rows.specs.Sums.{share, entries_of}
use Rattle.balance_rows.specs.Rows.{Row, cell_at}
use Rattle.balance_rows.specs.declared.layout.Basis.{Basis}
use Rattle.balance_rows.specs.declared.layout.Basis.TheVariants.{Changes}
use Rattle.balance_rows.specs.declared.layout.Order.{Order}
use Rattle.balance_rows.specs.declared.layout.Order.TheVariants.{Amounts, Tree}

-- the sum of the absolute values in a symbol
abbrev pub turnover : List ℕ → Sums → ℕ
turnover symbol [] = 0
turnover symbol (entry ∷ entries) = unsigned_abs (share symbol entry) + turnover symbol entries

-- it has no more than so many decimals
abbrev pub IsWhole : ℕ → List ℕ → List ℕ × ℤ → Type 0
IsWhole places symbol entry = unsigned_abs (share symbol entry) % 10 ^ (36 - places) ≡ 0

-- For some number of decimals, which no value in the symbol has more of, the absolute values sum to less than 2^127 in
-- units of the last of them.
pub record FitsIn (symbol : List ℕ) (entries : Sums) : Type 0 where
  pub places : ℕ
  pub few : places ≤ 36
  pub whole : AllByRecursion (IsWhole places symbol) entries
  pub small : turnover symbol entries < 2 ^ 127 * 10 ^ (36 - places)

-- the same in each symbol
abbrev pub Fit : Sums → Type 0
Fit entries = (symbol : List ℕ) → FitsIn symbol entries

-- all entries of a column
abbrev pub column_entries : ℕ → List Row → Sums
column_entries at rows = entries_of (map (λ row. cell_at at row.1) rows)

-- the cells of a row can be summed
abbrev pub RowFits : Row → Type 0
RowFits row = Fit (entries_of row.1)

-- the cells of each column can be summed
abbrev pub ColumnsFit : List Row → Type 0
ColumnsFit rows = (at : ℕ) → Fit (column_entries at rows)

-- The sums that an order asks for can be made: in a tree those of each column, and by amounts of changes those of each
-- row.
pub record OrderFits (order : Order) (basis : Basis) (rows : List Row) : Type 0 where
  pub tree : order ≡ Tree → ColumnsFit rows
  pub totals : order ≡ Amounts → basis ≡ Changes → AllByRecursion RowFits rows
