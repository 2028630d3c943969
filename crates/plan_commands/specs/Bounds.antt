-- The bounds that a report is given.
use Rattle.std.specs.Prelude.{None}
use Rattle.hl_time.specs.declared.spans.Period.{Period}
use Rattle.query.specs.Matching.{least, later}
use Rattle.report_options.specs.declared.options.Options.{Options}

-- bounds, narrowed by other ones
abbrev pub narrowed : Period → Period → Period
narrowed bounds dates = record {
  from = later bounds.from dates.from;
  end = least bounds.end dates.end;
  interval = None;
}

-- those of the options, narrowed by the days that the terms of the query have in common
abbrev pub given_bounds : Options → Period → Period
given_bounds options dates = narrowed options.bounds dates

-- options with other bounds
abbrev pub with_bounds : Options → Period → Options
with_bounds options bounds = record options { bounds = bounds }
