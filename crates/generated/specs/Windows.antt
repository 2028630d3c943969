-- The window of a forecast.
use Rattle.std.specs.Prelude.{ℕ, ◌+◌, min, max, List, [], ◌∷◌, Option, Some, None, unwrap_or}
use Rattle.std.specs.Option.{option_map}
use Rattle.hl_time.specs.Calendar.{day_end}
use Rattle.hl_time.specs.declared.spans.Period.{Period}
use Rattle.hl_time.specs.declared.spans.Span.{Span}
use Rattle.book.specs.declared.transaction.Txn.{Txn}

-- the later of two days, where there are two
abbrev pub later_of : Option ℕ → Option ℕ → Option ℕ
later_of None other = other
later_of (Some day) None = Some day
later_of (Some day) (Some other) = Some (max day other)

-- the greatest day of some transactions
abbrev pub last_day_of : List Txn → Option ℕ
last_day_of [] = None
last_day_of (t ∷ ts) = later_of (Some t.day.0) (last_day_of ts)

-- the day after, or the end of all days
abbrev pub day_after : ℕ → ℕ
day_after day = min day_end (day + 1)

-- Where a forecast begins: where it is asked to; else at the later of the report's beginning and the day after the last
-- transaction, or at the one of these that there is; else today.
abbrev pub first_day : Period → Period → List Txn → ℕ → ℕ
first_day asked given txns today =
    unwrap_or asked.from (unwrap_or (later_of given.from (option_map day_after (last_day_of txns))) today)

-- Where it ends: where it is asked to, else at the report's end, else 180 days after today or with all days.
abbrev pub end_day : Period → Period → ℕ → ℕ
end_day asked given today = unwrap_or asked.end (unwrap_or given.end (min day_end (today + 180)))

abbrev pub window_of : Period → Period → List Txn → ℕ → Span
window_of asked given txns today =
    record { from = first_day asked given txns today; end = end_day asked given today }
