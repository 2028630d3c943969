-- Cells are the sums of takings, so they can be summed again.
use Rattle.std.specs.Prelude.{◌≡◌, ℕ, List, length, None}
use Rattle.hl_time.specs.declared.spans.Span.{Span}
use Rattle.report_cells.specs.Bounds.{first_out}
use Rattle.report_cells.specs.Follows.{Follow}
use Rattle.report_cells.specs.Report.{rows_in, totals_in}
use Rattle.report_cells.specs.Taken.{Taken}
use Rattle.report_cells.specs.declared.reach.Reach.{Reach}
use Rattle.report_cells.specs.declared.reach.Reach.TheVariants.{Within}
use Rattle.report_options.specs.declared.options.Start.{Start}
use Rattle.report_options.specs.declared.options.Start.TheVariants as starts
use Rattle.report_sums.specs.Celled.{Celled}

-- However a report was valued, its rows and totals are the sums of some takings by as many columns as it has, no symbol
-- of these takings is out of range, and where the report shows changes each column counts its own days.
pub record Summed (start : Start) (width : ℕ) (cells : Celled) : Type 0 where
  pub takings : List Taken
  pub columns : List Span
  pub reach : Reach
  pub rows : cells.rows ≡ rows_in reach columns takings
  pub totals : cells.totals ≡ totals_in reach columns takings
  pub within : first_out takings ≡ None
  pub follow : Follow columns
  pub wide : length columns ≡ width
  pub changes : start ≡ starts.Change → reach ≡ Within
