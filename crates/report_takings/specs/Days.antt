-- The ends of some days.
use Rattle.std.specs.Prelude.{ℕ, ◌+◌, min, List, map, Option, Some, None}
use Rattle.std.specs.List.{fold}
use Rattle.hl_time.specs.Calendar.{day_end}
use Rattle.query.specs.Matching.{least, later}

-- the least of some days
abbrev pub least_of : List ℕ → Option ℕ
least_of days = fold least None (map (λ day. Some day) days)

-- the greatest of some days
abbrev pub greatest_of : List ℕ → Option ℕ
greatest_of days = fold later None (map (λ day. Some day) days)

-- the day after a day, which is no later than the end of all days
abbrev pub day_after : ℕ → ℕ
day_after day = min day_end (day + 1)
