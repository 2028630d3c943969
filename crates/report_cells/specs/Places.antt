-- The column that a day goes to, among columns that follow one another.
use Rattle.std.specs.Prelude.{ℕ, suc, Bool, true, ◌&&◌, nat_le, nat_lt, List, [], ◌∷◌, length, Option, Some, None, if◌then◌else◌}
use Rattle.hl_time.specs.Split.{part_at}
use Rattle.hl_time.specs.declared.spans.Span.{Span}
use Rattle.report_cells.specs.declared.reach.Reach.{Reach}
use Rattle.report_cells.specs.declared.reach.Reach.TheVariants.{Within, UpTo}

-- how many columns end before a day is over, up to the first that doesn't
abbrev pub first_after : List Span → ℕ → ℕ
first_after [] day = 0
first_after (column ∷ columns) day = if nat_le column.end day then suc (first_after columns day) else 0

-- a column that ends after a day counts it
abbrev pub reaches : Reach → ℕ → ℕ → Bool
reaches Within from day = nat_le from day
reaches UpTo from day = true

-- the first column that counts a day
abbrev pub place : Reach → List Span → ℕ → Option ℕ
place reach columns day =
    let at = first_after columns day in
    if nat_lt at (length columns) && reaches reach (part_at columns at).from day then Some at else None
