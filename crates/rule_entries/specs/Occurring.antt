-- The days on which a rule occurs within a window.
use Rattle.std.specs.Prelude.{ℕ, ◌+◌, ◌<◌, ◌≤◌, ◌==◌, min, max, nat_le, nat_lt, Bool, ◌&&◌, List, [], map, filter, Option, Some, None, unwrap_or, if◌then◌else◌}
use Rattle.std.specs.List.{range_with_len}
use Rattle.std.specs.Option.{option_to_list}
use Rattle.hl_time.specs.Calendar.{IsDay, day_end, last_day}
use Rattle.hl_time.specs.Split.{begins}
use Rattle.hl_time.specs.Units.{unit_of, occurrence}
use Rattle.hl_time.specs.declared.spans.Interval.{Interval}
use Rattle.hl_time.specs.declared.spans.Period.{Period}
use Rattle.hl_time.specs.declared.spans.Span.{Span}
use Rattle.hl_time.specs.declared.spans.Unit as declared
use Rattle.rule_entries.specs.declared.days.Occasions.{Occasions}

abbrev pub lies_in : Span → ℕ → Bool
lies_in span day = nat_le span.from day && nat_lt day span.end

abbrev pub later : ℕ → Option ℕ → ℕ
later day None = day
later day (Some other) = max day other

abbrev pub earlier : ℕ → Option ℕ → ℕ
earlier day None = day
earlier day (Some other) = min day other

-- a window, narrowed by the bounds of a period
abbrev pub narrowed : Period → Span → Span
narrowed period window = record { from = later window.from period.from; end = earlier window.end period.end }

-- the first beginning of a unit that isn't before a day, or the end of all days
unfoldable pub first_beginning : declared.Unit → ℕ → ℕ
first_beginning unit day =
    if begins unit (unit_of unit day) == day then day else begins unit (unit_of unit day + 1)

-- the day that a rule with an interval counts from: its start, else the first beginning of its unit in the window
abbrev pub counted_from : Period → declared.Unit → Span → ℕ
counted_from period unit span = unwrap_or period.from (first_beginning unit span.from)

-- a day of the calendar
abbrev pub is_day : ℕ → Bool
is_day day = nat_le 1 day && nat_le day last_day

-- so many intervals lead past all days
unfoldable pub most_counts : ℕ
most_counts = day_end

-- a day, and every one that comes so many intervals after it
unfoldable pub recurring : Interval → ℕ → List ℕ
recurring interval start =
    if is_day start then map (occurrence start interval) (range_with_len 0 most_counts) else []

abbrev pub days_by : Option Interval → Period → Span → List ℕ
days_by None period span = option_to_list period.from
days_by (Some interval) period span = recurring interval (counted_from period interval.unit span)

-- The days on which a rule of a period occurs within a window: of those that its interval leads to, or of its start
-- alone where it has none, the days that lie in the window and in the period.
unfoldable pub days_of : Period → Span → List ℕ
days_of period window = filter (lies_in (narrowed period window)) (days_by period.interval period (narrowed period window))

-- ---- days that are told by their counts

-- the days that some occasions stand for
abbrev pub days_seen : Occasions → List ℕ
days_seen occasions =
    map (occurrence occasions.start.0 occasions.interval) (range_with_len occasions.first occasions.count)

-- each of them is a day of the calendar
pub record AreDays (occasions : Occasions) : Type 0 where
  pub start : IsDay occasions.start.0
  pub few : occasions.first + occasions.count ≤ day_end
  pub each : (at : ℕ) → at < occasions.count → IsDay (occurrence occasions.start.0 occasions.interval (occasions.first + at))

-- occurrences before a count are before a day, and those from it on aren't
pub record IsCountAt (start : ℕ) (interval : Interval) (day count : ℕ) : Type 0 where
  pub within : count ≤ day_end
  pub below : (k : ℕ) → k < count → occurrence start interval k < day
  pub above : (k : ℕ) → count ≤ k → k < day_end → day ≤ occurrence start interval k

-- the first such count lies between two
pub record Halved (start : ℕ) (interval : Interval) (day low high : ℕ) : Type 0 where
  pub ordered : low ≤ high
  pub within : high ≤ day_end
  pub below : (k : ℕ) → k < low → occurrence start interval k < day
  pub above : (k : ℕ) → high ≤ k → k < day_end → day ≤ occurrence start interval k
