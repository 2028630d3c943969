-- Which postings a report takes, and what of them.
use Rattle.std.specs.Prelude.{◌≡◌, ℕ, ◌-◌, nat_le, nat_lt, Bool, true, false, not, ◌&&◌, List, map, filter, ◌++◌, length, Option, Some, None, if◌then◌else◌}
use Rattle.hl_num.specs.Decimal.{Decimal}
use Rattle.hl_time.specs.Split.{part_at}
use Rattle.hl_time.specs.declared.spans.Span.{Span}
use Rattle.report_cells.specs.Taken.{Taken}
use Rattle.report_cells.specs.declared.fault.ReportFault.{ReportFault}
use Rattle.report_cells.specs.declared.fault.ReportFault.TheVariants.{Range, TooWide, Memory}
use Rattle.report_options.specs.declared.options.Options.{Options}
use Rattle.report_options.specs.declared.options.Start.{Start}
use Rattle.report_options.specs.declared.options.Start.TheVariants as starts
use Rattle.report_takings.specs.Asking.{Question, entries}
use Rattle.report_takings.specs.Costs.{is_at_cost, moved, first_out}
use Rattle.report_takings.specs.Cuts.{cut_to}
use Rattle.report_takings.specs.Entries.{Entry, day_in}
use Rattle.report_takings.specs.declared.entries.Part.{Part}
use Rattle.report_takings.specs.declared.entries.Part.TheVariants.{Counted, Named}

-- from the first day of the first column up to the end of the last one
abbrev pub shown_in : List Span → Span
shown_in columns = record {
  from = (part_at columns 0).from;
  end = (part_at columns (length columns - 1)).end;
}

abbrev pub holds : Span → ℕ → Bool
holds span day = nat_le span.from day && nat_lt day span.end

-- sums begin before all days
abbrev pub is_historical : Start → Bool
is_historical starts.Historical = true
is_historical _ = false

-- for historical sums what the query means, whatever bounds it has on days, before the end of what is shown; else what
-- it means on the days that are shown
abbrev pub is_chosen : Start → Question → Span → Entry → Bool
is_chosen start asked shown entry =
    if is_historical start
    then (if nat_lt (day_in entry) shown.end then asked.means_boundless entry else false)
    else (if holds shown (day_in entry) then asked.means entry else false)

-- the days before a span
abbrev pub before : Span → Span
before span = record { from = 0; end = span.from }

-- With `-E` the accounts of earlier postings stand too; historical sums have them anyway.
abbrev pub names_earlier : Question → Bool
names_earlier asked = asked.options.empty && not (is_historical asked.options.start)

-- such a posting: one before what is shown, that the query means whatever bounds it has on days
abbrev pub is_named : Question → Span → Entry → Bool
is_named asked shown entry =
    if names_earlier asked then is_chosen starts.Historical asked (before shown) entry else false

-- it is kept for its amount, or for its account alone
abbrev pub is_kept : Part → Question → Span → Entry → Bool
is_kept Counted asked = is_chosen asked.options.start asked
is_kept Named asked = is_named asked

-- the postings that are kept so, in order
abbrev pub kept_entries : Part → Question → List Span → List Entry
kept_entries part asked columns = filter (is_kept part asked (shown_in columns)) (entries asked)

-- what a posting moves, where it is kept for that
abbrev pub moved_as : Part → Question → Entry → Option (List ℕ × Decimal)
moved_as Counted asked entry = moved (is_at_cost asked.options) entry.0
moved_as Named asked entry = None

-- what is taken of a posting
abbrev pub taken : Part → Question → Entry → Taken
taken part asked entry = record {
  account = cut_to asked.depth entry.0.account;
  day = day_in entry;
  amount = moved_as part asked entry;
}

abbrev pub taken_as : Part → Question → List Span → List Taken
taken_as part asked columns = map (taken part asked) (kept_entries part asked columns)

-- the takings of a report with these columns
abbrev pub takings_of : Question → List Span → List Taken
takings_of asked columns = taken_as Counted asked columns ++ taken_as Named asked columns

-- where amounts are taken at cost, the least symbol of those whose cost is out of range
abbrev pub out_among : Options → List Entry → Option (List ℕ)
out_among options entries = if is_at_cost options then first_out entries else None

-- that among the postings that are kept for their amounts
abbrev pub out_of : Question → List Span → Option (List ℕ)
out_of asked columns = out_among asked.options (kept_entries Counted asked columns)

-- the symbol is the one among these postings; want of memory says nothing
abbrev pub IsOutAmong : Options → List Entry → ReportFault → Type 0
IsOutAmong options entries (Range symbol) = out_among options entries ≡ Some symbol
IsOutAmong options entries (TooWide count limit) = ⊥
IsOutAmong options entries Memory = Unit {0}

-- among those that are kept for their amounts
abbrev pub IsOut : Question → List Span → ReportFault → Type 0
IsOut asked columns fault = IsOutAmong asked.options (kept_entries Counted asked columns) fault
