-- The sums of takings that are in range fit every statement whose columns count what it sums.
use Rattle.std.proofs.Common.{◌≡◌, List, None, sym, subst}
use Rattle.hl_time.specs.declared.spans.Span.{Span}
use Rattle.report_cells.specs.Bounds.{first_out}
use Rattle.report_cells.specs.Follows.{Follow}
use Rattle.report_cells.specs.Report.{rows_in}
use Rattle.report_cells.specs.Taken.{Taken}
use Rattle.report_cells.specs.declared.reach.Reach.{Reach}
use Rattle.balance_rows.specs.declared.layout.Layout.{Layout}
use Rattle.balance_rows.specs.Rows.{Row}
use Rattle.balance_rows.proofs.CellsFit.{columns_fit}
use Rattle.balance_layouts.specs.Balance.{CountsChanges}
use Rattle.balance_layouts.proofs.Promised.{all_cells_fit, ranks_fit}
use Rattle.statements.specs.Fits.{CellsFit}

pub cells_fit : (layout : Layout) (reach : Reach) (columns : List Span) (ts : List Taken) → Follow columns → first_out ts ≡ None
    → CountsChanges layout reach → CellsFit layout (rows_in reach columns ts)
cells_fit layout reach columns ts follow none counts = record {
  columns = columns_fit reach columns ts none;
  ranks = λ amounts changes. ranks_fit layout reach columns ts follow none (counts.changes changes);
  totals = λ asked. all_cells_fit layout reach columns ts follow none (counts.totals asked);
}

-- and so do cells that say what these sums do
pub made_fit : (layout : Layout) (reach : Reach) (columns : List Span) (ts : List Taken) → Follow columns → first_out ts ≡ None
    → (rows : List Row) → rows ≡ rows_in reach columns ts → CountsChanges layout reach → CellsFit layout rows
made_fit layout reach columns ts follow none rows rows_are counts =
    subst (λ (t : List Row). CellsFit layout t) (sym rows_are) (cells_fit layout reach columns ts follow none counts)
