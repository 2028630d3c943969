-- The sums of takings that are in range fit every layout in which the columns count what it sums.
use Rattle.std.proofs.Common.{◌≡◌, ℕ, true, List, None, refl, sym, subst}
use Rattle.std.specs.List.{AllByRecursion}
use Rattle.hl_time.specs.declared.spans.Span.{Span}
use Rattle.report_cells.specs.Bounds.{first_out}
use Rattle.report_cells.specs.Follows.{Follow}
use Rattle.report_cells.specs.Report.{Sums, rows_in, totals_in}
use Rattle.report_cells.specs.Taken.{Taken}
use Rattle.report_cells.specs.declared.reach.Reach.{Reach}
use Rattle.report_cells.specs.declared.reach.Reach.TheVariants.{Within}
use Rattle.balance_rows.specs.declared.layout.Basis.TheVariants.{Changes}
use Rattle.balance_rows.specs.declared.layout.Layout.{Layout}
use Rattle.balance_rows.specs.Fitting.{Fit, RowFits}
use Rattle.balance_rows.specs.Rows.{Row}
use Rattle.balance_rows.specs.Sums.{entries_of}
use Rattle.balance_rows.proofs.CellsFit.{columns_fit, rows_fit}
use Rattle.balance_layouts.specs.Balance.{CellsFit, CountsChanges}
use Rattle.balance_layouts.specs.Totals.{asks_totals, cells_of}
use Rattle.balance_layouts.proofs.Changes.{all_fit, totals_fit}
use Rattle.balance_layouts.proofs.Laid.{laid}

-- ---- which layouts these are

-- columns that count their own days serve every layout
pub within_counts : (layout : Layout) → CountsChanges layout Within
within_counts layout = record { changes = λ h. refl; totals = λ h. refl }

-- and so do those of reports in which totals of rows are asked for only of changes
pub asked_counts : (layout : Layout) (reach : Reach) → (layout.basis ≡ Changes → reach ≡ Within) → (asks_totals layout ≡ true → layout.basis ≡ Changes) → CountsChanges layout reach
asked_counts layout reach changes asked = record { changes = changes; totals = λ h. changes (asked h) }

-- ---- their cells fit

module _ (layout : Layout) (reach : Reach) (columns : List Span) (ts : List Taken) (follow : Follow columns) (none : first_out ts ≡ None) where
  pub ranks_fit : reach ≡ Within → AllByRecursion RowFits (rows_in reach columns ts)
  ranks_fit is = subst (λ (r : Reach). AllByRecursion RowFits (rows_in r columns ts)) (sym is) (rows_fit columns ts follow none)

  pub all_cells_fit : reach ≡ Within → Fit (cells_of (rows_in reach columns ts))
  all_cells_fit is = subst (λ (r : Reach). Fit (cells_of (rows_in r columns ts))) (sym is) (all_fit columns ts follow none)

  all_totals_fit : reach ≡ Within → Fit (entries_of (totals_in reach columns ts))
  all_totals_fit is = subst (λ (r : Reach). Fit (entries_of (totals_in r columns ts))) (sym is) (totals_fit columns ts follow none)

  -- The sums of takings fit a layout whose columns count what it sums.
  pub cells_fit : (n : ℕ) → CountsChanges layout reach → CellsFit layout n (rows_in reach columns ts) (totals_in reach columns ts)
  cells_fit n counts = record {
    order_fits = record {
      tree = λ h. columns_fit reach columns ts none;
      totals = λ amounts changes. ranks_fit (counts.changes changes);
    };
    totals_fit = λ table. record {
      of_rows = λ asked. laid layout n (rows_in reach columns ts) (all_cells_fit (counts.totals asked));
      of_totals = λ asked shown. all_totals_fit (counts.totals asked);
    };
  }

  -- and so do cells that say what these sums do
  pub made_fit : (rows : List Row) (totals : List Sums) → rows ≡ rows_in reach columns ts → totals ≡ totals_in reach columns ts
      → (n : ℕ) → CountsChanges layout reach → CellsFit layout n rows totals
  made_fit rows totals rows_are totals_are n counts =
      subst (λ (t : List Row). CellsFit layout n t totals) (sym rows_are)
      (subst (λ (t : List Sums). CellsFit layout n (rows_in reach columns ts) t) (sym totals_are) (cells_fit n counts))
