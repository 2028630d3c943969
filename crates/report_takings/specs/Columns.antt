-- The columns of a report.
use Rattle.std.specs.Prelude.{◌≡◌, ℕ, ◌+◌, ◌-◌, ◌*◌, ◌/◌, ◌<◌, List, [], ◌∷◌, length, map, Option, Some, None, if◌then◌else◌}
use Rattle.std.specs.List.{range_with_len}
use Rattle.hl_time.specs.Periods.{is_within}
use Rattle.hl_time.specs.Split.{interval_at}
use Rattle.hl_time.specs.Units.{unit_of}
use Rattle.hl_time.specs.declared.spans.Interval.{Interval}
use Rattle.hl_time.specs.declared.spans.Span.{Span}
use Rattle.report_cells.specs.declared.fault.ReportFault.{ReportFault}
use Rattle.report_cells.specs.declared.fault.ReportFault.TheVariants.{Range, TooWide, Memory}
use Rattle.report_takings.specs.Asking.{Question}
use Rattle.report_takings.specs.Spans.{span_of}

-- the most columns that a report may have
abbrev pub column_limit : ℕ
column_limit = 1200

-- the unit that holds a span's first day
abbrev pub first_unit : Interval → Span → ℕ
first_unit interval span = unit_of interval.unit span.from

-- how many intervals from there on reach to the span's last day
abbrev pub interval_count : Interval → Span → ℕ
interval_count interval span =
    (unit_of interval.unit (span.end - 1) - first_unit interval span) / interval.n + 1

-- they, in their order
abbrev pub intervals_of : Interval → Span → List Span
intervals_of interval span =
    map (λ at. interval_at interval (first_unit interval span + interval.n * at)) (range_with_len 0 (interval_count interval span))

-- the parts of a span: whole intervals where it has a day and its days are days of the calendar; else the span itself
abbrev pub cut_into : Option Interval → Span → List Span
cut_into None span = span ∷ []
cut_into (Some interval) span = if is_within span then intervals_of interval span else span ∷ []

-- the columns of a report
abbrev pub columns_of : Question → List Span
columns_of asked = cut_into asked.options.bounds.interval (span_of asked)

-- there are so many columns, more than a report may have
pub record HasTooMany (columns : List Span) (count limit : ℕ) : Type 0 where
  pub counted : count ≡ length columns
  pub many : limit < count
  pub most : limit ≡ column_limit

-- the columns are too many; want of memory says nothing
abbrev pub IsTooWide : List Span → ReportFault → Type 0
IsTooWide columns (TooWide count limit) = HasTooMany columns count limit
IsTooWide columns (Range symbol) = ⊥
IsTooWide columns Memory = Unit {0}
