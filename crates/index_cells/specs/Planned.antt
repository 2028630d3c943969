-- What the rows by a plan hold.
use Rattle.std.specs.Prelude.{ℕ, List}
use Rattle.hl_time.specs.declared.spans.Span.{Span}
use Rattle.report_cells.specs.Kept.{Cell}
use Rattle.report_cells.specs.declared.cells.CellRow.{CellRow}
use Rattle.index_cells.specs.Held.{HoldsRow, HoldsRows, most_of, summed_in}
use Rattle.index_cells.specs.declared.kept.Kept.{Kept}
use Rattle.index_cells.specs.declared.rows.Plan.{Plan}

-- the kept sums of an account in some columns
abbrev pub HoldsCellsOf : Kept → Plan → List ℕ → List Cell → List Span → Type 0
HoldsCellsOf kept plan account cells columns =
    HoldsRow (summed_in kept plan.reach plan.days account) (most_of kept) cells columns

-- a row for each account that is named
abbrev pub HoldsRowsOf : Kept → Plan → List CellRow → Type 0
HoldsRowsOf kept plan rows = HoldsRows (summed_in kept plan.reach plan.days) (most_of kept)
    plan.columns.now rows kept.accounts
