-- The totals of rows.
use Rattle.std.proofs.Common.{◌≡◌, ℕ, ◌+◌, List, [], ◌∷◌, ◌++◌, map, refl, sym, ap, subst, ◌∙◌, arith}
use Rattle.std.specs.List.{range_with_len}
use Rattle.std.proofs.lemmas.List.{map-append}
use Rattle.report_cells.specs.Report.{Sums, row_seen, seen}
use Rattle.report_cells.specs.declared.cells.CellRow.{CellRow}
use Rattle.balance_rows.specs.Fitting.{ColumnsFit, Fit}
use Rattle.balance_rows.specs.Groups.{KeptCells, group_sums}
use Rattle.balance_rows.specs.Kept.{EachFits, KeptSums, added_all, all_entries, kept_at}
use Rattle.balance_rows.specs.Rows.{Row, cell_at}
use Rattle.balance_rows.specs.Sums.{entries_of, summed}
use Rattle.balance_rows.specs.Trees.{column_sums}
use Rattle.balance_rows.proofs.RowsLaws.{range-push}
use Rattle.balance_rows.proofs.Fits.{can_add_cells, cells_sum}
use Rattle.balance_rows.proofs.TreesLaws.{map-twice, seen_at}

-- one column more
pub sums_more : (sum : ℕ → KeptSums) (n : ℕ) → map sum (range_with_len 0 (n + 1)) ≡ map sum (range_with_len 0 n) ++ sum n ∷ []
sums_more sum n =
    let e : 0 + n ≡ n = omega arith in
    ap (map sum) (range-push 0 n ∙ ap (λ (k : ℕ). range_with_len 0 n ++ k ∷ []) e) ∙ map-append sum (range_with_len 0 n) (n ∷ [])

-- the cells of rows
abbrev pub cells_in : List CellRow → List KeptCells
cells_in rows = map (λ row. row.cells) rows

same_cells : (at : ℕ) (rows : List CellRow) → map (λ (row : Row). cell_at at row.1) (map row_seen rows) ≡ map seen (map (kept_at at) (cells_in rows))
same_cells at [] = refl
same_cells at (row ∷ rows) = λ i. seen_at row.cells at i ∷ same_cells at rows i

module _ (rows : List CellRow) (fit : ColumnsFit (map row_seen rows)) where
  fits_at : (at : ℕ) → Fit (entries_of (map seen (map (kept_at at) (cells_in rows))))
  fits_at at = subst (λ (cells : List Sums). Fit (entries_of cells)) (same_cells at rows) (fit at)

  pub columns_add : (at : ℕ) → EachFits [] (all_entries (map (kept_at at) (cells_in rows)))
  columns_add at = can_add_cells (map (kept_at at) (cells_in rows)) (fits_at at)

  pub totals_seen : (columns : ℕ) → map seen (group_sums columns (cells_in rows)) ≡ column_sums columns (map row_seen rows)
  totals_seen columns =
      map-twice seen (λ at. added_all [] (all_entries (map (kept_at at) (cells_in rows)))) (range_with_len 0 columns)
      ∙ (λ i. map (λ at. (cells_sum (map (kept_at at) (cells_in rows)) (fits_at at) ∙ ap summed (sym (same_cells at rows))) i) (range_with_len 0 columns))
