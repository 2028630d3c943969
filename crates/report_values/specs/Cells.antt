-- The sums of a report by account and column, valued.
use Rattle.std.specs.Prelude.{ℕ, Bool, true, not, List, map, filter, length, Option, Some, None}
use Rattle.hl_time.specs.declared.day.Day.{Day}
use Rattle.hl_time.specs.declared.spans.Span.{Span}
use Rattle.report_cells.specs.Bounds.{is_out, first_out}
use Rattle.report_cells.specs.Report.{Sums, row_seen, rows_in, totals_in}
use Rattle.report_cells.specs.Taken.{Shared, Taken}
use Rattle.report_cells.specs.declared.cells.Cells.{Cells}
use Rattle.report_cells.specs.declared.reach.Reach.{Reach}
use Rattle.report_cells.specs.declared.reach.Reach.TheVariants.{Within}
use Rattle.report_values.specs.ValueDays.{day_at}
use Rattle.report_values.specs.Numbers.{numbers}
use Rattle.report_values.specs.Refusals.{lesser, first_lost, values_of}
use Rattle.report_values.specs.Spread.{spread}
use Rattle.report_values.specs.Worth.{Priced, priced_of}
use Rattle.report_values.specs.declared.cells.Plan.{Plan}

-- an account, with its sums in each column
abbrev pub Row : Type 0
Row = List ℕ × List Sums

-- ---- sums of rows, the columns of which have these days

-- the values of the sums of some rows
abbrev pub cell_values : Priced → List Day → List Row → List Taken
cell_values market days rows = values_of market (day_at days) (spread rows)

-- the least symbol of a sum whose value is out of range, or whose values are too large to sum
abbrev pub first_cell : Priced → List Day → List Row → Option (List ℕ)
first_cell market days rows =
    lesser (first_lost market (day_at days) (spread rows)) (first_out (cell_values market days rows))

-- the rows of the values, whose columns are known by their numbers, and their totals
abbrev pub valued_rows : Priced → List Day → ℕ → List Row → List Row
valued_rows market days width rows = rows_in Within (numbers width) (cell_values market days rows)

abbrev pub valued_totals : Priced → List Day → ℕ → List Row → List Sums
valued_totals market days width rows = totals_in Within (numbers width) (cell_values market days rows)

-- what the rows of some cells say
abbrev pub rows_of : Cells → List Row
rows_of cells = map row_seen cells.rows

-- ---- sums of takings

-- How sums are made and valued: the columns and which days they count, the day on which each column is valued, and by
-- what.
pub record Planned : Type 0 where
  pub columns : List Span
  pub reach : Reach
  pub days : List Day
  pub market : Priced

abbrev pub planned_of : Plan → Planned
planned_of plan = record {
  columns = plan.columns.now;
  reach = plan.reach;
  days = plan.days.now;
  market = priced_of plan.market.now;
}

-- the symbol of an amount isn't out of range
abbrev pub fits_in : List Taken → Option Shared → Bool
fits_in ts None = true
fits_in ts (Some share) = not (is_out ts share.0)

-- the takings whose amounts aren't too large to sum
abbrev pub fitting : List Taken → List Taken
fitting ts = filter (λ t. fits_in ts t.amount) ts

-- the plain sums of some takings
abbrev pub plain_rows : Planned → List Taken → List Row
plain_rows plan ts = rows_in plan.reach plan.columns ts

-- the rows of their values and the totals
abbrev pub rows_on : Planned → List Taken → List Row
rows_on plan ts = valued_rows plan.market plan.days (length plan.columns) (plain_rows plan ts)

abbrev pub totals_on : Planned → List Taken → List Sums
totals_on plan ts = valued_totals plan.market plan.days (length plan.columns) (plain_rows plan ts)

-- the least symbol whose amounts are too large to sum; or, of the takings without these, of a sum whose value is out
-- of range, or whose values are too large to sum
abbrev pub first_on : Planned → List Taken → Option (List ℕ)
first_on plan ts = lesser (first_out ts) (first_cell plan.market plan.days (plain_rows plan (fitting ts)))
