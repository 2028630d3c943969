-- What a budget sums can be summed.
use Rattle.std.proofs.Common.{◌≡◌, ℕ, Bool, true, false, cond, List, [], ◌∷◌, codes, map, filter, is_none, Option, Some, None, OnSome, refl, sym, subst}
use Rattle.std.specs.List.{AllByRecursion}
use Rattle.std.specs.Ordering.{is_lt}
use Rattle.std.specs.declared.cmp.Ordering.{Ordering}
use Rattle.report_cells.specs.Report.{Sums}
use Rattle.balance_rows.specs.declared.layout.Basis.{Basis}
use Rattle.balance_rows.specs.declared.layout.Basis.TheVariants.{Changes}
use Rattle.balance_rows.specs.declared.layout.Layout.{Layout}
use Rattle.balance_rows.specs.declared.layout.Order.{Order}
use Rattle.balance_rows.specs.declared.layout.Order.TheVariants.{Accounts, Amounts, Tree}
use Rattle.balance_rows.specs.Fitting.{ColumnsFit, Fit, RowFits}
use Rattle.balance_rows.specs.Layouts.{amount_in}
use Rattle.balance_rows.specs.Orders.{placed, row_cmp, sorted}
use Rattle.balance_rows.specs.Rows.{Row, is_shown}
use Rattle.balance_rows.specs.Sums.{entries_of}
use Rattle.balance_rows.specs.Trees.{column_sums}
use Rattle.balance_rows.proofs.Fits.{IsPart, fit_part, part-itself, part-none}
use Rattle.balance_rows.proofs.TreesLaws.{fit_filter, part-join}
use Rattle.balance_layouts.specs.Totals.{cells_of}
use Rattle.balance_layouts.proofs.Parts.{part-skip, part-then}
use Rattle.balance_layouts.proofs.Sums.{part-columns}
use Rattle.budget_layout.specs.Counted.{counted, counts_for, goal_rows, is_for, ordered, rest_rows, uncounted}
use Rattle.budget_layout.specs.Fits.{CellsFit}
use Rattle.budget_layout.specs.RowsFit.{LinesFit}
use Rattle.budget_layout.specs.Told.{Report}

-- ---- rows that pass a test

pub filter_fits : (p : Row → Bool) (rows made : List Row) → made ≡ filter p rows → ColumnsFit rows → ColumnsFit made
filter_fits p rows made is fits = subst (λ (t : List Row). ColumnsFit t) (sym is) (λ at. fit_filter p at rows (fits at))

part-filter : (p : Row → Bool) (rows : List Row) → IsPart (cells_of (filter p rows)) (cells_of rows)
part-filter p [] = part-none []
part-filter p (row ∷ rows) = elim (p row) as (λ b. IsPart (cells_of (cond b (row ∷ filter p rows) (filter p rows))) (cells_of (row ∷ rows))) [
  | true ↦ part-join (entries_of row.1) (cells_of (filter p rows)) (entries_of row.1) (cells_of rows) (part-itself (entries_of row.1)) (part-filter p rows)
  | false ↦ part-skip (cells_of (filter p rows)) (entries_of row.1) (cells_of rows) (part-filter p rows)
]

sums_fit : (columns : ℕ) (p : Row → Bool) (rows : List Row) → Fit (cells_of rows) → Fit (entries_of (column_sums columns (filter p rows)))
sums_fit columns p rows fit =
    fit_part (entries_of (column_sums columns (filter p rows))) (cells_of rows)
    (part-then (entries_of (column_sums columns (filter p rows))) (cells_of (filter p rows)) (cells_of rows)
    (part-columns columns (filter p rows)) (part-filter p rows)) fit

-- ---- the rows of a budget

module _ (columns : ℕ) (goals rows : List Row) (fit : Fit (cells_of rows)) where
  each_fits : (some : List Row) → AllByRecursion RowFits (map (λ (goal : Row). (goal.0, column_sums columns (counted goals goal.0 rows))) some)
  each_fits [] = tt
  each_fits (goal ∷ some) = (sums_fit columns (λ (row : Row). is_for goal.0 (counts_for goals row.0)) rows fit, each_fits some)

  pub goals_fit : AllByRecursion RowFits (goal_rows columns goals rows)
  goals_fit = each_fits goals

  abbrev uncounted_row : Row
  uncounted_row = (codes "<unbudgeted>", column_sums columns (uncounted goals rows))

  pub rest_fits : AllByRecursion RowFits (rest_rows columns goals rows)
  rest_fits = elim (is_shown uncounted_row) as (λ b. AllByRecursion RowFits (cond b (uncounted_row ∷ []) [])) [
    | true ↦ (sums_fit columns (λ (row : Row). is_none (counts_for goals row.0)) rows fit, tt)
    | false ↦ tt
  ]

module _ (P : Row → Type 0) (cmp : Row → Row → Ordering) where
  all_placed : (row : Row) (rows : List Row) → P row → AllByRecursion P rows → AllByRecursion P (placed cmp row rows)
  all_placed row [] h all = (h, tt)
  all_placed row (other ∷ others) h all =
      elim (is_lt (cmp other row)) as (λ b. AllByRecursion P (cond b (other ∷ placed cmp row others) (row ∷ other ∷ others))) [
        | true ↦ (all.0, all_placed row others h all.1)
        | false ↦ (h, all)
      ]

  all_sorted : (rows : List Row) → AllByRecursion P rows → AllByRecursion P (sorted cmp rows)
  all_sorted [] all = tt
  all_sorted (row ∷ rows) all = all_placed row (sorted cmp rows) all.0 (all_sorted rows all.1)

ordered_fit : (order : Order) (basis : Basis) (rows : List Row) → AllByRecursion RowFits rows → AllByRecursion RowFits (ordered order basis rows)
ordered_fit Accounts basis rows all = all
ordered_fit Amounts basis rows all = all_sorted RowFits (row_cmp (amount_in basis)) rows all
ordered_fit Tree basis rows all = all

-- the rows that stand by their amounts
pub ranks_fit : (layout : Layout) (columns : ℕ) (goals rows made : List Row) → made ≡ goal_rows columns goals rows
    → (layout.order ≡ Amounts → layout.basis ≡ Changes → Fit (cells_of rows))
    → layout.order ≡ Amounts → layout.basis ≡ Changes → AllByRecursion RowFits made
ranks_fit layout columns goals rows made is fits amounts changes =
    subst (λ (t : List Row). AllByRecursion RowFits t) (sym is) (goals_fit columns goals rows (fits amounts changes))

-- ---- the lines of a budget

shown_fit : (layout : Layout) (totals more : List Sums) (b : Bool) (shown : Option (List Sums)) → layout.no_total ≡ b → shown ≡ cond b None (Some more)
    → (layout.no_total ≡ false → Fit (entries_of totals)) → OnSome shown (Fit (entries_of totals))
shown_fit layout totals more true shown left is fit = subst (λ (t : Option (List Sums)). OnSome t (Fit (entries_of totals))) (sym is) tt
shown_fit layout totals more false shown left is fit = subst (λ (t : Option (List Sums)). OnSome t (Fit (entries_of totals))) (sym is) (fit left)

pub lines_fit : (layout : Layout) (columns : ℕ) (actual : Report) (goals rows rest : List Row) (totals more : List Sums) (shown : Option (List Sums))
    → CellsFit layout actual → rows ≡ ordered layout.order layout.basis (goal_rows columns goals actual.rows) → rest ≡ rest_rows columns goals actual.rows
    → totals ≡ actual.totals → shown ≡ cond layout.no_total None (Some more) → LinesFit layout rows rest totals shown
lines_fit layout columns actual goals rows rest totals more shown fits rows_are rest_are totals_are shown_is = record {
  of_rows = λ asked. subst (λ (t : List Row). AllByRecursion RowFits t) (sym rows_are)
      (ordered_fit layout.order layout.basis (goal_rows columns goals actual.rows) (goals_fit columns goals actual.rows (fits.of_rows asked)));
  of_rest = λ asked. subst (λ (t : List Row). AllByRecursion RowFits t) (sym rest_are) (rest_fits columns goals actual.rows (fits.of_rows asked));
  of_totals = λ asked. shown_fit layout totals more layout.no_total shown refl shown_is
      (λ left. subst (λ (t : List Sums). Fit (entries_of t)) (sym totals_are) (fits.of_totals asked left));
}
