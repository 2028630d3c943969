-- The sums of a report by account and column, valued as its options say.
use Rattle.std.specs.Prelude.{ℕ, Bool, false, not, List, map, Option, Some, None, Result, Ok, Err}
use Rattle.hl_time.specs.declared.spans.Span.{Span}
use Rattle.report_cells.specs.Bounds.{first_out}
use Rattle.report_cells.specs.Report.{Sums, row_seen, rows_in, seen, totals_in}
use Rattle.report_cells.specs.Taken.{Taken}
use Rattle.report_cells.specs.declared.cells.Cells.{Cells}
use Rattle.report_cells.specs.declared.fault.ReportFault.{ReportFault}
use Rattle.report_cells.specs.declared.fault.ReportFault.TheVariants.{Range, TooWide, Memory}
use Rattle.report_cells.specs.declared.reach.Reach.{Reach}
use Rattle.report_cells.specs.declared.reach.Reach.TheVariants.{Within, UpTo}
use Rattle.report_options.specs.declared.options.Options.{Options}
use Rattle.report_options.specs.declared.options.Start.{Start}
use Rattle.report_options.specs.declared.options.Start.TheVariants as starts
use Rattle.report_options.specs.declared.options.When.{When}
use Rattle.report_takings.specs.Costs.{is_at_cost}
use Rattle.report_takings.specs.Takings.{out_of, takings_of}
use Rattle.report_values.specs.Cells.{Planned, Row, first_on, rows_on, totals_on}
use Rattle.report_values.specs.Days.{day_of}
use Rattle.report_values.specs.Refusals.{first_refused, values_of}
use Rattle.report_values.specs.ValueDays.{day_by}
use Rattle.report_values.specs.Worth.{Priced}
use Rattle.report_values.specs.declared.dates.Dates.TheVariants as dates
use Rattle.report_sums.specs.Matters.{Matter, dated_in, market_in}
use Rattle.report_sums.specs.Ways.{way_of}
use Rattle.report_sums.specs.declared.way.Way.{Way}
use Rattle.report_sums.specs.declared.way.Way.TheVariants as ways

-- which days a column counts
abbrev pub reach_of : Start → Reach
reach_of starts.Change = Within
reach_of starts.Cumulative = UpTo
reach_of starts.Historical = UpTo

-- the rows and the totals of a report
pub record Celled : Type 0 where
  pub rows : List Row
  pub totals : List Sums

-- what some cells say
abbrev pub celled_of : Cells → Celled
celled_of cells = record { rows = map row_seen cells.rows; totals = map seen cells.totals }

-- what is made, unless a symbol is out of range
abbrev pub unless : {A : Type 0} → Option (List ℕ) → A → Result A ReportFault
unless None made = Ok made
unless (Some symbol) made = Err (Range symbol)

-- why there are none; want of memory says nothing
abbrev pub cause : ReportFault → Option ReportFault
cause (Range symbol) = Some (Range symbol)
cause (TooWide columns limit) = Some (TooWide columns limit)
cause Memory = None

-- the sums of some takings
abbrev pub sums_in : Reach → List Span → List Taken → Celled
sums_in reach columns ts = record { rows = rows_in reach columns ts; totals = totals_in reach columns ts }

-- as they are
abbrev pub plain_cells : Reach → List Span → List Taken → Result Celled ReportFault
plain_cells reach columns ts = unless (first_out ts) (sums_in reach columns ts)

-- each valued on its own day
abbrev pub each_cells : Priced → Reach → List Span → List Taken → Result Celled ReportFault
each_cells market reach columns ts =
    unless (first_refused market (day_by dates.Own) ts)
    (sums_in reach columns (values_of market (day_by dates.Own) ts))

-- summed, and each sum valued on the day of its column
abbrev pub column_cells : Planned → List Taken → Result Celled ReportFault
column_cells plan ts = unless (first_on plan ts) (record { rows = rows_on plan ts; totals = totals_on plan ts })

abbrev pub planned : Matter → When → List Span → Planned
planned m when columns = record {
  columns = columns;
  reach = reach_of m.asked.options.start;
  days = map (day_of (dated_in m) when) columns;
  market = market_in m;
}

abbrev pub cells_by : Way → Matter → List Span → List Taken → Result Celled ReportFault
cells_by ways.Plain m columns ts = plain_cells (reach_of m.asked.options.start) columns ts
cells_by ways.Each m columns ts = each_cells (market_in m) (reach_of m.asked.options.start) columns ts
cells_by (ways.Columns when) m columns ts = column_cells (planned m when columns) ts

-- amounts are summed as they are written: neither valued nor taken at cost
abbrev pub is_written : Way → Options → Bool
is_written ways.Plain options = not (is_at_cost options)
is_written ways.Each options = false
is_written (ways.Columns _) options = false

-- the sums of what the report takes, unless a cost is out of range
abbrev pub taken_cells : Option (List ℕ) → Matter → List Span → Result Celled ReportFault
taken_cells None m columns = cells_by (way_of m.asked.options.value) m columns (takings_of m.asked columns)
taken_cells (Some symbol) m columns = Err (Range symbol)

-- The sums of a report by these columns.
abbrev pub cells_of : Matter → List Span → Result Celled ReportFault
cells_of m columns = taken_cells (out_of m.asked columns) m columns
