-- Rows and cells at their places in a list.
use Rattle.std.proofs.Common.{◌≡◌, ℕ, zero, suc, ◌+◌, ◌<◌, List, [], ◌∷◌, ◌++◌, length, get_or, map, sym, subst, arith}
use Rattle.std.specs.List.{AllByRecursion}
use Rattle.std.proofs.lemmas.List.{map-append}
use Rattle.report_cells.specs.declared.cells.CellRow.{CellRow}
use Rattle.report_cells.specs.Report.{row_seen, seen}
use Rattle.balance_rows.specs.Kept.{KeptSums}
use Rattle.balance_rows.specs.Rows.{Row}

-- what is said of all rows holds of the one at a place
pub row_at : (P : Row → Type 0) (rows : List CellRow) (i : ℕ) (row : CellRow) → i < length rows → row ≡ get_or rows i row → AllByRecursion P (map row_seen rows) → P (row_seen row)
row_at P [] i row within is h = absurd (omega arith)
row_at P (r ∷ rows) zero row within is h = subst (λ (x : CellRow). P (row_seen x)) (sym is) h.0
row_at P (r ∷ rows) (suc i) row within is h = row_at P rows i row (omega arith) is h.1

-- what cells say, with one more behind them
pub seen_behind : (cells : List KeptSums) (cell : KeptSums) → map seen (cells ++ cell ∷ []) ≡ map seen cells ++ seen cell ∷ []
seen_behind cells cell = map-append seen cells (cell ∷ [])
