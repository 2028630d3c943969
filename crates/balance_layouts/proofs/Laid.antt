-- The rows that stay, in their order, can be summed, where all cells can.
use Rattle.std.proofs.Common.{◌≡◌, ℕ, Bool, true, false, ◌||◌, cond, List, [], ◌∷◌, map, filter}
use Rattle.std.specs.List.{AllByRecursion, flat_map}
use Rattle.std.specs.Ordering.{is_lt}
use Rattle.std.specs.declared.cmp.Ordering.{Ordering}
use Rattle.book.specs.Accounts.{account_cmp}
use Rattle.book.specs.Order.{each_once}
use Rattle.balance_rows.specs.declared.layout.Basis.{Basis}
use Rattle.balance_rows.specs.declared.layout.Layout.{Layout}
use Rattle.balance_rows.specs.declared.layout.Order.{Order}
use Rattle.balance_rows.specs.declared.layout.Order.TheVariants.{Accounts, Amounts, Tree}
use Rattle.balance_rows.specs.Fitting.{Fit, RowFits}
use Rattle.balance_rows.specs.Layouts.{amount_in, in_order, laid_rows}
use Rattle.balance_rows.specs.Orders.{placed, row_cmp, sorted}
use Rattle.balance_rows.specs.Rows.{Row, is_shown, shown_rows}
use Rattle.balance_rows.specs.Sums.{entries_of}
use Rattle.balance_rows.specs.Trees.{column_sums, given, of_name}
use Rattle.balance_rows.proofs.Fits.{IsPart, fit_part, part-itself, part-none}
use Rattle.balance_rows.proofs.TreesLaws.{part-join}
use Rattle.balance_layouts.specs.Totals.{cells_of}
use Rattle.balance_layouts.proofs.Named.{part-named}
use Rattle.balance_layouts.proofs.Parts.{part-left, part-right, part-skip, part-then}
use Rattle.balance_layouts.proofs.Sums.{part-columns}

part-filter : (p : Row → Bool) (rows : List Row) → IsPart (cells_of (filter p rows)) (cells_of rows)
part-filter p [] = part-none []
part-filter p (row ∷ rows) = elim (p row) as (λ b. IsPart (cells_of (cond b (row ∷ filter p rows) (filter p rows))) (cells_of (row ∷ rows))) [
  | true ↦ part-join (entries_of row.1) (cells_of (filter p rows)) (entries_of row.1) (cells_of rows) (part-itself (entries_of row.1)) (part-filter p rows)
  | false ↦ part-skip (cells_of (filter p rows)) (entries_of row.1) (cells_of rows) (part-filter p rows)
]

each_row : (rows : List Row) → Fit (cells_of rows) → AllByRecursion RowFits rows
each_row [] fit = tt
each_row (row ∷ rows) fit = (
  fit_part (entries_of row.1) (cells_of (row ∷ rows)) (part-left (entries_of row.1) (cells_of rows)) fit,
  each_row rows (fit_part (cells_of rows) (cells_of (row ∷ rows)) (part-right (entries_of row.1) (cells_of rows)) fit),
)

module _ (P : Row → Type 0) (cmp : Row → Row → Ordering) where
  all_placed : (row : Row) (rows : List Row) → P row → AllByRecursion P rows → AllByRecursion P (placed cmp row rows)
  all_placed row [] h all = (h, tt)
  all_placed row (other ∷ others) h all =
      elim (is_lt (cmp other row)) as (λ b. AllByRecursion P (cond b (other ∷ placed cmp row others) (row ∷ other ∷ others))) [
        | true ↦ (all.0, all_placed row others h all.1)
        | false ↦ (h, all)
      ]

  all_sorted : (rows : List Row) → AllByRecursion P rows → AllByRecursion P (sorted cmp rows)
  all_sorted [] all = tt
  all_sorted (row ∷ rows) all = all_placed row (sorted cmp rows) all.0 (all_sorted rows all.1)

tree_rows : (columns : ℕ) (rows : List Row) → Fit (cells_of rows) → (names : List (List ℕ))
    → AllByRecursion RowFits (map (λ name. (name, column_sums columns (of_name name (flat_map given rows)))) names)
tree_rows columns rows fit [] = tt
tree_rows columns rows fit (name ∷ names) =
    let own = of_name name (flat_map given rows) in (
      fit_part (entries_of (column_sums columns own)) (cells_of rows)
          (part-then (entries_of (column_sums columns own)) (cells_of own) (cells_of rows) (part-columns columns own) (part-named name rows)) fit,
      tree_rows columns rows fit names,
    )

ordered : (order : Order) (basis : Basis) (columns : ℕ) (rows : List Row) → Fit (cells_of rows) → AllByRecursion RowFits (in_order order basis columns rows)
ordered Accounts basis columns rows fit = each_row rows fit
ordered Amounts basis columns rows fit = all_sorted RowFits (row_cmp (amount_in basis)) rows (each_row rows fit)
ordered Tree basis columns rows fit =
    tree_rows columns rows fit (each_once account_cmp (map (λ (row : Row). row.0) (flat_map given rows)))

-- the rows that stay
pub laid : (layout : Layout) (columns : ℕ) (rows : List Row) → Fit (cells_of rows) → AllByRecursion RowFits (laid_rows layout columns rows)
laid layout columns rows fit =
    ordered layout.order layout.basis columns (shown_rows layout.empty rows)
    (fit_part (cells_of (shown_rows layout.empty rows)) (cells_of rows) (part-filter (λ (row : Row). layout.empty || is_shown row) rows) fit)
