-- What cells say: rows by their accounts, and their totals.
use Rattle.std.specs.Prelude.{List, map}
use Rattle.report_cells.specs.Report.{Sums, row_seen, seen}
use Rattle.report_cells.specs.declared.cells.Cells.{Cells}
use Rattle.balance_rows.specs.Rows.{Row}

pub record Report : Type 0 where
  pub rows : List Row
  pub totals : List Sums

abbrev pub told_by : Cells → Report
told_by cells = record { rows = map row_seen cells.rows; totals = map seen cells.totals }
