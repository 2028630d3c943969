-- Columns that follow one another.
use Rattle.std.specs.Prelude.{◌≡◌, ℕ, ◌+◌, ◌<◌, ◌≤◌, List, length}
use Rattle.hl_time.specs.Split.{part_at}
use Rattle.hl_time.specs.declared.spans.Span.{Span}

pub record Follow (columns : List Span) : Type 0 where
  pub some : 0 < length columns
  -- each ends where the next begins
  pub joined : (at : ℕ) → at + 1 < length columns → (part_at columns at).end ≡ (part_at columns (at + 1)).from
  -- and no later than the next ends
  pub rising : (at : ℕ) → at + 1 < length columns → (part_at columns at).end ≤ (part_at columns (at + 1)).end
