-- Cutting a span into intervals.
use Rattle.std.specs.Prelude.{◌≡◌, ℕ, ◌+◌, ◌-◌, ◌<◌, ◌≤◌, List, length, slice_index_or, min}
use Rattle.hl_time.specs.Calendar.{day_end}
use Rattle.hl_time.specs.Units.{unit_start, unit_of}
use Rattle.hl_time.specs.declared.spans.Unit as declared
use Rattle.hl_time.specs.declared.spans.Interval.{Interval}
use Rattle.hl_time.specs.declared.spans.Span.{Span}

-- where a unit begins, and the end of all days for one that begins past them
unfoldable pub begins : declared.Unit → ℕ → ℕ
begins unit index = min day_end (unit_start unit index)

-- a part of a list of spans
abbrev pub part_at : List Span → ℕ → Span
part_at parts at = slice_index_or parts at (record { from = 0; end = 0 })

-- from the beginning of a unit over the interval's number of them; past 9999-12-31 it ends there
abbrev pub IsInterval : Interval → Span → Type 0
IsInterval interval part =
    (index : ℕ) × (part.from ≡ unit_start interval.unit index) × (part.end ≡ begins interval.unit (index + interval.n))

-- the parts of a span, widened to whole intervals
pub record IsSplit (span : Span) (interval : Interval) (parts : List Span) : Type 0 where
  pub some : 0 < length parts
  -- the first begins with the unit that holds the span's first day
  pub first : (part_at parts 0).from ≡ unit_start interval.unit (unit_of interval.unit span.from)
  pub whole : (at : ℕ) → at < length parts → IsInterval interval (part_at parts at)
  -- each ends where the next begins
  pub joined : (at : ℕ) → at + 1 < length parts → (part_at parts at).end ≡ (part_at parts (at + 1)).from
  -- the last holds the span's last day
  pub last : ((part_at parts (length parts - 1)).from < span.end) × (span.end ≤ (part_at parts (length parts - 1)).end)

-- the parts so many intervals on from a unit
unfoldable pub interval_at : Interval → ℕ → Span
interval_at interval index =
    record { from = unit_start interval.unit index; end = begins interval.unit (index + interval.n) }
