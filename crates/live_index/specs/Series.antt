-- Series: rows of one account, symbol and number of decimals, by day.
use Rattle.std.specs.Prelude.{◌≡◌, ◌-◌, ◌<◌, ◌≤◌, ℕ, ℤ, Bool, true, not, nat_lt, nat_le, ◌==◌, ◌&&◌, List, [], ◌∷◌, length, filter, slice_index_or}
use Rattle.std.specs.Str.{bytes_eq}
use Rattle.std.specs.Int.{int_wrap, w128}
use Rattle.live_index.specs.declared.row.Row.{Row}
use Rattle.live_index.specs.declared.runs.Run.{Run}
use Rattle.live_index.specs.Rows.{sum_by}
use Rattle.live_index.specs.Runs.{before}

-- a row has the account, symbol and number of decimals of the one before it, and no earlier day
abbrev pub goes_on : Row → Row → Bool
goes_on first second =
    (((first.value.places == second.value.places) && nat_le first.day.0 second.day.0) && bytes_eq first.symbol second.symbol) && bytes_eq first.account second.account

-- the row at a place goes on from the one before it
abbrev pub GoesOnAt : List Row → ℕ → Type 0
GoesOnAt rows at =
    (d : Row) → 0 < at → at < length rows → goes_on (slice_index_or rows (at - 1) d) (slice_index_or rows at d) ≡ true

-- each row goes on from the one before it
abbrev pub IsSeries : List Row → Type 0
IsSeries rows = (at : ℕ) → GoesOnAt rows at

-- the first row is the last of its day
abbrev pub ends_day : List Row → Bool
ends_day [] = true
ends_day (row ∷ []) = true
ends_day (row ∷ next ∷ rows) = not (row.day.0 == next.day.0)

-- the sum of the mantissas of the rows before a day
abbrev pub mantissas_until : List Row → ℕ → ℤ
mantissas_until rows end = sum_by (λ row. row.value.mantissa) (filter (λ row. nat_lt row.day.0 end) rows)

-- the sums of all rows by day, modulo 2^128
abbrev pub AreDaysOf : List Row → List Run → Type 0
AreDaysOf rows runs = (end : ℕ) → before runs end ≡ int_wrap w128 (mantissas_until rows end)
