-- The sums of a report are those of some takings, however they are valued.
use Rattle.std.proofs.Common.{◌≡◌, ℕ, List, length, Option, Some, None, Result, Ok, Err, IfOk, refl, ap, subst, ◌∙◌}
use Rattle.hl_base.specs.Gives.{Gives}
use Rattle.hl_time.specs.declared.spans.Span.{Span}
use Rattle.report_cells.specs.Bounds.{first_out}
use Rattle.report_cells.specs.Follows.{Follow}
use Rattle.report_cells.specs.Taken.{Taken}
use Rattle.report_cells.specs.declared.cells.Cells.{Cells}
use Rattle.report_cells.specs.declared.fault.ReportFault.{ReportFault}
use Rattle.report_cells.specs.declared.reach.Reach.TheVariants.{Within}
use Rattle.report_options.specs.declared.options.Start.{Start}
use Rattle.report_takings.specs.Takings.{out_of, takings_of}
use Rattle.report_values.specs.Cells.{Planned, cell_values, first_cell, first_on, plain_rows, rows_on, totals_on}
use Rattle.report_values.specs.Numbers.{numbers}
use Rattle.report_values.specs.Refusals.{first_lost, first_refused, lesser, values_of}
use Rattle.report_values.specs.ValueDays.{day_at, day_by}
use Rattle.report_values.specs.Spread.{spread}
use Rattle.report_values.specs.Worth.{Priced}
use Rattle.report_values.specs.declared.dates.Dates.TheVariants as dates
use Rattle.report_values.proofs.Composing.{refused_alone}
use Rattle.report_values.proofs.Leaving.{some_none}
use Rattle.report_values.proofs.Numbering.{follow, numbers-length}
use Rattle.report_sums.specs.Celled.{Celled, cause, celled_of, cells_by, cells_of, planned, reach_of, sums_in, taken_cells, unless}
use Rattle.report_sums.specs.Matters.{Matter, market_in}
use Rattle.report_sums.specs.Summed.{Summed}
use Rattle.report_sums.specs.Ways.{way_of}
use Rattle.report_sums.specs.declared.way.Way.{Way}
use Rattle.report_sums.specs.declared.way.Way.TheVariants as ways

-- ---- no symbol is out of range

none_of : (a b : Option (List ℕ)) → lesser a b ≡ None → (a ≡ None) × (b ≡ None)
none_of None b h = (refl, h)
none_of (Some x) None h = absurd (some_none x h)
none_of (Some x) (Some y) h = absurd (some_none _ h)

none_unless : (first : Option (List ℕ)) (made cells : Celled) → unless first made ≡ Ok cells → (first ≡ None) × (made ≡ cells)
none_unless None made cells h = let is : made ≡ cells = cc in (refl, is)
none_unless (Some symbol) made cells h = absurd (cc)

-- what is made is summed where no symbol is out of range
made_summed : (start : Start) (width : ℕ) (first : Option (List ℕ)) (made cells : Celled) → (first ≡ None → Summed start width made)
    → unless first made ≡ Ok cells → Summed start width cells
made_summed start width first made cells make h =
    let both = none_unless first made cells h in
    subst (Summed start width) both.1 (make both.0)

-- ---- each way of valuing

-- sums of takings
summed_in : (start : Start) (columns : List Span) (ts : List Taken) → Follow columns → first_out ts ≡ None
    → Summed start (length columns) (sums_in (reach_of start) columns ts)
summed_in start columns ts follows none = record {
  takings = ts;
  columns = columns;
  reach = reach_of start;
  rows = refl;
  totals = refl;
  within = none;
  follow = follows;
  wide = refl;
  changes = λ change. ap reach_of change;
}

-- of the values of takings
none_refused : (market : Priced) (ts : List Taken) → first_refused market (day_by dates.Own) ts ≡ None
    → first_out (values_of market (day_by dates.Own) ts) ≡ None
none_refused market ts h =
    (none_of (lesser (first_out ts) (first_lost market (day_by dates.Own) ts)) (first_out (values_of market (day_by dates.Own) ts)) h).1

module _ (plan : Planned) (ts : List Taken) (none : first_on plan ts ≡ None) where
  -- the values of the sums
  abbrev worths : List Taken
  worths = cell_values plan.market plan.days (plain_rows plan ts)

  none_first : first_out ts ≡ None
  none_first = (none_of (first_out ts) _ none).0

  none_cell : first_cell plan.market plan.days (plain_rows plan ts) ≡ None
  none_cell = refused_alone plan ts (plain_rows plan ts) none_first refl ∙ none

  none_worths : first_out worths ≡ None
  none_worths = (none_of (first_lost plan.market (day_at plan.days) (spread (plain_rows plan ts))) (first_out worths) none_cell).1

  summed_on : (start : Start) → Follow plan.columns → Summed start (length plan.columns) (record { rows = rows_on plan ts; totals = totals_on plan ts })
  summed_on start follows = record {
    takings = worths;
    columns = numbers (length plan.columns);
    reach = Within;
    rows = refl;
    totals = refl;
    within = none_worths;
    follow = follow (length plan.columns) follows.some;
    wide = numbers-length 0 (length plan.columns);
    changes = λ change. refl;
  }

-- ---- of a report

by_way : (way : Way) (m : Matter) (columns : List Span) (ts : List Taken) (cells : Celled) → Follow columns
    → cells_by way m columns ts ≡ Ok cells → Summed m.asked.options.start (length columns) cells
by_way ways.Plain m columns ts cells follows h =
    made_summed m.asked.options.start (length columns) (first_out ts) (sums_in (reach_of m.asked.options.start) columns ts) cells
    (summed_in m.asked.options.start columns ts follows) h
by_way ways.Each m columns ts cells follows h =
    let values = values_of (market_in m) (day_by dates.Own) ts in
    made_summed m.asked.options.start (length columns) (first_refused (market_in m) (day_by dates.Own) ts)
    (sums_in (reach_of m.asked.options.start) columns values) cells
    (λ none. summed_in m.asked.options.start columns values follows (none_refused (market_in m) ts none)) h
by_way (ways.Columns when) m columns ts cells follows h =
    let plan = planned m when columns in
    made_summed m.asked.options.start (length columns) (first_on plan ts) (record { rows = rows_on plan ts; totals = totals_on plan ts }) cells
    (λ none. summed_on plan ts none m.asked.options.start follows) h

unless_out : (out : Option (List ℕ)) (m : Matter) (columns : List Span) (cells : Celled) → Follow columns
    → taken_cells out m columns ≡ Ok cells → Summed m.asked.options.start (length columns) cells
unless_out None m columns cells follows h =
    by_way (way_of m.asked.options.value) m columns (takings_of m.asked columns) cells follows h
unless_out (Some symbol) m columns cells follows h = absurd (cc)

-- The sums of a report by columns that follow one another are the sums of some takings.
pub summed : (m : Matter) (columns : List Span) (cells : Celled) → Follow columns → cells_of m columns ≡ Ok cells
    → Summed m.asked.options.start (length columns) cells
summed m columns cells follows h = unless_out (out_of m.asked columns) m columns cells follows h

-- So are those that a call answers.
pub summed_told : (m : Matter) (columns : List Span) (r : Result Cells ReportFault) → Follow columns → Gives celled_of cause r (cells_of m columns)
    → IfOk r (λ cells. Summed m.asked.options.start (length columns) (celled_of cells))
summed_told m columns (Ok cells) follows told = summed m columns (celled_of cells) follows told
summed_told m columns (Err fault) follows told = tt
