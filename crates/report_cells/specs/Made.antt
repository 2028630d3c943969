-- What comes of takings that were gathered.
use Rattle.std.specs.Prelude.{◌≡◌, List, map, Some, None, Result, Ok, Err}
use Rattle.hl_time.specs.declared.spans.Span.{Span}
use Rattle.report_cells.specs.Bounds.{first_out}
use Rattle.report_cells.specs.Faults.{IsFault}
use Rattle.report_cells.specs.Report.{row_seen, rows_in, seen, totals_in}
use Rattle.report_cells.specs.Taken.{Taken}
use Rattle.report_cells.specs.Turned.{Turnovers, first_full}
use Rattle.report_cells.specs.declared.cells.Cells.{Cells}
use Rattle.report_cells.specs.declared.fault.ReportFault.{ReportFault}
use Rattle.report_cells.specs.declared.fault.ReportFault.TheVariants.{Range, TooWide, Memory}
use Rattle.report_cells.specs.declared.reach.Reach.{Reach}

-- Cells are the sums of these takings by these columns, and no symbol is out of range.
pub record AreSumsOf (columns : List Span) (reach : Reach) (ts : List Taken) (cells : Cells) : Type 0 where
  pub by_columns : cells.columns ≡ columns
  pub rows : map row_seen cells.rows ≡ rows_in reach columns ts
  pub totals : map seen cells.totals ≡ totals_in reach columns ts
  pub within : first_out ts ≡ None

-- so are those that are answered, or a symbol is out of range
abbrev pub Makes : List Span → Reach → List Taken → Result Cells ReportFault → Type 0
Makes columns reach ts (Ok cells) = AreSumsOf columns reach ts cells
Makes columns reach ts (Err fault) = IsFault ts fault

-- the symbol is the least one whose absolute amounts are too large; want of memory says nothing
abbrev pub IsFull : Turnovers → ReportFault → Type 0
IsFull kept (Range symbol) = first_full kept ≡ Some symbol
IsFull kept (TooWide columns limit) = ⊥
IsFull kept Memory = Unit {0}
