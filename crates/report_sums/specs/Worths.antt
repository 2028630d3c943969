-- What the takings of a report without columns are worth, each by itself.
use Rattle.std.specs.Prelude.{List, Result, Ok}
use Rattle.hl_time.specs.declared.spans.Span.{Span}
use Rattle.report_cells.specs.Taken.{Taken}
use Rattle.report_cells.specs.declared.fault.ReportFault.{ReportFault}
use Rattle.report_values.specs.Days.{day_of}
use Rattle.report_values.specs.Refusals.{first_refused, values_of}
use Rattle.report_values.specs.ValueDays.{day_by}
use Rattle.report_values.specs.Worth.{Priced}
use Rattle.report_values.specs.declared.dates.Dates.{Dates}
use Rattle.report_values.specs.declared.dates.Dates.TheVariants as dates
use Rattle.report_sums.specs.Celled.{unless}
use Rattle.report_sums.specs.Matters.{Matter, dated_in, market_in}
use Rattle.report_sums.specs.Ways.{way_of}
use Rattle.report_sums.specs.declared.way.Way.{Way}
use Rattle.report_sums.specs.declared.way.Way.TheVariants as ways

-- their values on these days, unless a symbol is out of range
abbrev pub worth_on : Priced → Dates → List Taken → Result (List Taken) ReportFault
worth_on market days ts = unless (first_refused market (day_by days) ts) (values_of market (day_by days) ts)

-- as they are; each on its own day; or all on the one day of the report, whose span is this one
abbrev pub worth_by : Way → Matter → Span → List Taken → Result (List Taken) ReportFault
worth_by ways.Plain m span ts = Ok ts
worth_by ways.Each m span ts = worth_on (market_in m) dates.Own ts
worth_by (ways.Columns when) m span ts = worth_on (market_in m) (dates.On (day_of (dated_in m) when span)) ts

-- What the takings of a report over a span are worth.
abbrev pub worths_of : Matter → Span → List Taken → Result (List Taken) ReportFault
worths_of m span ts = worth_by (way_of m.asked.options.value) m span ts
