-- The sums of columns are parts of the cells that they sum.
use Rattle.std.proofs.Common.{◌≡◌, ℕ, zero, suc, ◌+◌, ◌<◌, ◌≤◌, inl, inr, List, [], ◌∷◌, ◌++◌, length, map, drop, get_or, refl, sym, ap, subst, ◌∙◌, arith}
use Rattle.std.specs.List.{range_with_len}
use Rattle.std.proofs.lemmas.Bool.{cases_lt}
use Rattle.std.proofs.lemmas.List.{get_or_past}
use Rattle.std.proofs.lemmas.List.FromFn.{get_or-map-range_with_len, length-map-range_with_len}
use Rattle.report_cells.specs.Report.{Sums}
use Rattle.balance_rows.specs.Fitting.{column_entries}
use Rattle.balance_rows.specs.Rows.{Row, cell_at}
use Rattle.balance_rows.specs.Sums.{entries_of, summed}
use Rattle.balance_rows.specs.Trees.{column_sums}
use Rattle.balance_layouts.specs.Totals.{cells_of}
use Rattle.balance_layouts.proofs.Mixing.{part-mixed}
use Rattle.balance_rows.proofs.Fits.{IsPart, part-none}
use Rattle.balance_rows.proofs.TreesLaws.{part-join}
use Rattle.balance_layouts.proofs.Parts.{part-cross, part-same, part-then}

abbrev column_sum : List Row → ℕ → Sums
column_sum rows at = summed (map (λ (row : Row). cell_at at row.1) rows)

-- ---- one column

pub part-column : (columns at : ℕ) (rows : List Row) → IsPart (cell_at at (column_sums columns rows)) (column_entries at rows)
part-column columns at rows = elim (cases_lt at columns) [
  | inl within ↦
      subst (λ (cell : Sums). IsPart cell (column_entries at rows))
      (sym (get_or-map-range_with_len (column_sum rows) 0 columns at at [] within (omega arith)))
      (part-mixed (column_entries at rows))
  | inr past ↦
      subst (λ (cell : Sums). IsPart cell (column_entries at rows))
      (sym (get_or_past (column_sums columns rows) at [] (omega (arith, length-map-range_with_len (column_sum rows) 0 columns, past))))
      (part-none (column_entries at rows))
]

-- ---- all columns

abbrev no_cells : List Sums
no_cells = []

none_left : (n : ℕ) → drop n no_cells ≡ no_cells
none_left zero = refl
none_left (suc n) = refl

-- the cell of a column, and those behind it
front : (cells : List Sums) (low : ℕ) → entries_of (drop low cells) ≡ cell_at low cells ++ entries_of (drop (low + 1) cells)
front [] low = ap entries_of (none_left low) ∙ sym (ap entries_of (none_left (low + 1)))
front (cell ∷ cells) zero = refl
front (cell ∷ cells) (suc low) =
    let next : suc (low + 1) ≡ suc low + 1 = omega arith in
    front cells low ∙ ap (λ (n : ℕ). cell_at low cells ++ entries_of (drop n (cell ∷ cells))) next

-- the cells from a column on
abbrev from_column : ℕ → List Row → Sums
from_column low rows = entries_of (map (λ (row : Row). entries_of (drop low row.1)) rows)

parted : (low : ℕ) (rows : List Row) → IsPart (column_entries low rows ++ from_column (low + 1) rows) (from_column low rows)
parted low [] = part-none []
parted low (row ∷ rows) =
    let cell = cell_at low row.1 in
    let behind = entries_of (drop (low + 1) row.1) in
    let columns = column_entries low rows in
    let rest = from_column (low + 1) rows in
    part-then ((cell ++ columns) ++ (behind ++ rest)) ((cell ++ behind) ++ (columns ++ rest)) (from_column low (row ∷ rows))
    (part-cross cell columns behind rest)
    (part-join (cell ++ behind) (columns ++ rest) (entries_of (drop low row.1)) (from_column low rows)
    (part-same (cell ++ behind) (entries_of (drop low row.1)) (sym (front row.1 low))) (parted low rows))

from_on : (low n : ℕ) (rows : List Row) → IsPart (entries_of (map (column_sum rows) (range_with_len low n))) (from_column low rows)
from_on low zero rows = part-none (from_column low rows)
from_on low (suc n) rows =
    let rest = entries_of (map (column_sum rows) (range_with_len (low + 1) n)) in
    part-then (column_sum rows low ++ rest) (column_entries low rows ++ from_column (low + 1) rows) (from_column low rows)
    (part-join (column_sum rows low) rest (column_entries low rows) (from_column (low + 1) rows)
    (part-mixed (column_entries low rows)) (from_on (low + 1) n rows))
    (parted low rows)

-- the sums of all columns
pub part-columns : (columns : ℕ) (rows : List Row) → IsPart (entries_of (column_sums columns rows)) (cells_of rows)
part-columns columns rows = from_on 0 columns rows
