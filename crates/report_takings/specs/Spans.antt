-- The span of a report.
use Rattle.std.specs.Prelude.{ℕ, List, map, filter, Option, unwrap_or}
use Rattle.std.specs.Option.{option_map, option_or}
use Rattle.hl_time.specs.declared.spans.Span.{Span}
use Rattle.query.specs.Matching.{least, later}
use Rattle.report_takings.specs.Asking.{Question, entries}
use Rattle.report_takings.specs.Days.{least_of, greatest_of, day_after}
use Rattle.report_takings.specs.Entries.{day_in}

-- the days of the postings that the query means, whatever their days
abbrev pub days_meant : Question → List ℕ
days_meant asked = map day_in (filter asked.means_undated (entries asked))

-- the bounds that are given: of the options, narrowed by the terms of days outside `not:`
abbrev pub given_from : Question → Option ℕ
given_from asked = later asked.options.bounds.from asked.dates.from

abbrev pub given_end : Question → Option ℕ
given_end asked = least asked.options.bounds.end asked.dates.end

-- The bounds that are given. In place of a missing one the least day, or the day after the greatest, of the postings that
-- the query means, whatever their days; with none of these the day that was handed in.
abbrev pub span_of : Question → Span
span_of asked = record {
  from = unwrap_or (option_or (given_from asked) (least_of (days_meant asked))) asked.day;
  end = unwrap_or (option_or (given_end asked) (option_map day_after (greatest_of (days_meant asked)))) asked.day;
}
