-- The days of a budget's goals.
use Rattle.std.specs.Prelude.{List, min, max}
use Rattle.hl_time.specs.Calendar.{day_end}
use Rattle.hl_time.specs.declared.spans.Span.{Span}
use Rattle.report_takings.specs.Takings.{shown_in}

-- the days of a span that are days of the calendar
abbrev pub in_calendar : Span → Span
in_calendar span = record { from = max span.from 1; end = min span.end day_end }

-- all days of the columns of a report
abbrev pub goal_span : List Span → Span
goal_span columns = in_calendar (shown_in columns)
