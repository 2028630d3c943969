-- Bounds that are narrowed are days still.
use Rattle.std.proofs.Common.{ℕ, ◌≤◌, Option, Some, None, arith}
use Rattle.std.specs.Prelude.{IfSome}
use Rattle.hl_time.specs.Calendar.{day_end}
use Rattle.query.specs.Matching.{least, later}

abbrev pub Within : Option ℕ → Type 0
Within bound = IfSome bound (λ day. (1 ≤ day) × (day ≤ day_end))

pub later_within : (a b : Option ℕ) → Within a → Within b → Within (later a b)
later_within None b left right = right
later_within (Some day) None left right = left
later_within (Some day) (Some other) left right = (omega (arith, left.0, right.0), omega (arith, left.1, right.1))

pub least_within : (a b : Option ℕ) → Within a → Within b → Within (least a b)
least_within None b left right = right
least_within (Some day) None left right = left
least_within (Some day) (Some other) left right = (omega (arith, left.0, right.0), omega (arith, left.1, right.1))
