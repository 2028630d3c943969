-- The sums of takings that are in range fit every budget whose columns count what it sums.
use Rattle.std.proofs.Common.{◌≡◌, List, [], ◌∷◌, None, sym, subst}
use Rattle.std.specs.List.{AllByRecursion}
use Rattle.hl_time.specs.declared.spans.Span.{Span}
use Rattle.report_cells.specs.Bounds.{first_out}
use Rattle.report_cells.specs.Follows.{Follow}
use Rattle.report_cells.specs.Report.{Sums, rows_in, totals_in}
use Rattle.report_cells.specs.Taken.{Taken}
use Rattle.report_cells.specs.declared.reach.Reach.{Reach}
use Rattle.report_cells.specs.declared.reach.Reach.TheVariants.{Within}
use Rattle.balance_rows.specs.declared.layout.Layout.{Layout}
use Rattle.balance_rows.specs.Fitting.{ColumnsFit, Fit, RowFits}
use Rattle.balance_rows.specs.Rows.{Row}
use Rattle.balance_rows.specs.Sums.{entries_of}
use Rattle.balance_rows.proofs.CellsFit.{columns_fit}
use Rattle.balance_rows.proofs.Fits.{fit_part}
use Rattle.balance_layouts.specs.Balance.{CountsChanges}
use Rattle.balance_layouts.specs.Totals.{TotalsFit, cells_of}
use Rattle.balance_layouts.proofs.Changes.{totals_fit}
use Rattle.balance_layouts.proofs.Parts.{part-left, part-right}
use Rattle.balance_layouts.proofs.Promised.{all_cells_fit}
use Rattle.budget_layout.specs.Fits.{CellsFit}
use Rattle.budget_layout.specs.Told.{Report}

each_row : (rows : List Row) → Fit (cells_of rows) → AllByRecursion RowFits rows
each_row [] fit = tt
each_row (row ∷ rows) fit = (
  fit_part (entries_of row.1) (cells_of (row ∷ rows)) (part-left (entries_of row.1) (cells_of rows)) fit,
  each_row rows (fit_part (cells_of rows) (cells_of (row ∷ rows)) (part-right (entries_of row.1) (cells_of rows)) fit),
)

module _ (layout : Layout) (reach : Reach) (columns : List Span) (ts : List Taken) (follow : Follow columns) (none : first_out ts ≡ None)
    (counts : CountsChanges layout reach) where
  all_totals : reach ≡ Within → Fit (entries_of (totals_in reach columns ts))
  all_totals is = subst (λ (r : Reach). Fit (entries_of (totals_in r columns ts))) (sym is) (totals_fit columns ts follow none)

  -- amounts
  pub actual_fit : (actual : Report) → actual.rows ≡ rows_in reach columns ts → actual.totals ≡ totals_in reach columns ts → CellsFit layout actual
  actual_fit actual rows_are totals_are = record {
    columns = subst (λ (t : List Row). ColumnsFit t) (sym rows_are) (columns_fit reach columns ts none);
    ranks = λ amounts changes. subst (λ (t : List Row). Fit (cells_of t)) (sym rows_are) (all_cells_fit layout reach columns ts follow none (counts.changes changes));
    of_rows = λ asked. subst (λ (t : List Row). Fit (cells_of t)) (sym rows_are) (all_cells_fit layout reach columns ts follow none (counts.totals asked));
    of_totals = λ asked shown. subst (λ (t : List Sums). Fit (entries_of t)) (sym totals_are) (all_totals (counts.totals asked));
  }

  -- goals
  pub goals_fit : (rows : List Row) (totals : List Sums) → rows ≡ rows_in reach columns ts → totals ≡ totals_in reach columns ts → TotalsFit layout rows totals
  goals_fit rows totals rows_are totals_are = record {
    of_rows = λ asked. subst (λ (t : List Row). AllByRecursion RowFits t) (sym rows_are)
        (each_row (rows_in reach columns ts) (all_cells_fit layout reach columns ts follow none (counts.totals asked)));
    of_totals = λ asked shown. subst (λ (t : List Sums). Fit (entries_of t)) (sym totals_are) (all_totals (counts.totals asked));
  }
