-- Which postings a register takes.
use Rattle.std.specs.Prelude.{nat_le, List, [], ◌∷◌, ◌++◌, filter, if◌then◌else◌}
use Rattle.hl_time.specs.declared.spans.Span.{Span}
use Rattle.report_cells.specs.declared.fault.ReportFault.{ReportFault}
use Rattle.report_options.specs.declared.options.Start.TheVariants.{Change, Historical}
use Rattle.report_takings.specs.Asking.{Question, entries}
use Rattle.report_takings.specs.Entries.{Entry, day_in}
use Rattle.report_takings.specs.Takings.{IsOutAmong, before, is_chosen, is_historical}
use Rattle.register_report.specs.Heads.{Headed}

abbrev pub insert_by_day : Entry → List Entry → List Entry
insert_by_day e [] = e ∷ []
insert_by_day e (f ∷ fs) = if nat_le (day_in e) (day_in f) then e ∷ f ∷ fs else f ∷ insert_by_day e fs

-- sorted by day, in their order on one day
abbrev pub by_day : List Entry → List Entry
by_day [] = []
by_day (e ∷ es) = insert_by_day e (by_day es)

-- the postings that a register shows: those on the days of its span that the query means, by day
abbrev pub shown_in : Question → Span → List Entry
shown_in asked span = by_day (filter (is_chosen Change asked span) (entries asked))

-- where sums begin before all days, what the query means whatever bounds it has on days, before the span
abbrev pub earlier_in : Question → Span → List Entry
earlier_in asked span =
    if is_historical asked.options.start
    then filter (is_chosen Historical asked (before span)) (entries asked)
    else []

-- both
abbrev pub all_in : Question → Span → List Entry
all_in asked span = earlier_in asked span ++ shown_in asked span

-- what a register shows of a posting's transaction
abbrev pub head_of : Entry → Headed
head_of entry = record { line = entry.1.line; description = entry.1.description }

-- amounts are taken at cost, and the symbol is the least of those whose cost is out of range
abbrev pub IsOut : Question → Span → ReportFault → Type 0
IsOut asked span fault = IsOutAmong asked.options (all_in asked span) fault
