-- Sums of rows over the days of a span, in units of 10^-36.
use Rattle.std.specs.Prelude.{ℕ, ℤ, Bool, false, ◌&&◌, List, filter}
use Rattle.hl_time.specs.declared.spans.Span.{Span}
use Rattle.live_index.specs.declared.row.Row.{Row}
use Rattle.live_index.specs.Rows.{counts, total}
use Rattle.index_cells.specs.Days.{holds}

-- a row of an account, in a symbol, on one of the days
abbrev pub is_over : List ℕ → List ℕ → Span → Row → Bool
is_over account symbol days row = counts account symbol false row && holds days row.day.0

-- the plain sum of these
abbrev pub sum_over : List Row → List ℕ → List ℕ → Span → ℤ
sum_over rows account symbol days = total (filter (is_over account symbol days) rows)
