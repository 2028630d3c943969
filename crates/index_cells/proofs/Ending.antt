-- The days that a column counts are no later than those of the span.
use Rattle.std.proofs.Common.{◌≡◌, ℕ, ◌<◌, min, List, Result, Ok, Err, IfOk, refl, ap, subst, arith}
use Rattle.hl_time.specs.declared.spans.Span.{Span}
use Rattle.report_cells.specs.declared.reach.Reach.{Reach}
use Rattle.report_cells.specs.declared.reach.Reach.TheVariants.{Within, UpTo}
use Rattle.report_cells.specs.Kept.{Cell}
use Rattle.index_cells.specs.Days.{counted}
use Rattle.index_cells.specs.Held.{HoldsSums, most_of, summed, summed_in}
use Rattle.index_cells.specs.declared.kept.Kept.{Kept}

ends : (reach : Reach) (days column : Span) → (counted reach days column).end ≡ min days.end column.end
ends Within days column = refl
ends UpTo days column = refl

pub no_later : (reach : Reach) (days column : Span) (bound : ℕ) (made : Span) → made ≡ counted reach days column → days.end < bound → made.end < bound
no_later reach days column bound made is h = omega (arith, h, ap (λ (s : Span). s.end) is, ends reach days column)

-- a cell over these days is that of the column
pub told_by : {E : Type 0} (kept : Kept) (account : List ℕ) (reach : Reach) (days column made : Span) → made ≡ counted reach days column → (r : Result Cell E) → IfOk r (λ cell. HoldsSums cell (summed kept account made) (most_of kept))
    → IfOk r (λ cell. HoldsSums cell (summed_in kept reach days account column) (most_of kept))
told_by kept account reach days column made is (Ok cell) h = subst (λ (s : Span). HoldsSums cell (summed kept account s) (most_of kept)) is h
told_by kept account reach days column made is (Err e) h = tt
