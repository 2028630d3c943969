-- Columns follow one another.
use Rattle.std.proofs.Common.{◌≡◌, ℕ, ◌+◌, ◌≤◌, List, [], ◌∷◌, arith}
use Rattle.hl_time.specs.Split.{begins, part_at, IsSplit}
use Rattle.hl_time.specs.Units.{unit_start}
use Rattle.hl_time.specs.declared.spans.Interval.{Interval}
use Rattle.hl_time.specs.declared.spans.Span.{Span}
use Rattle.hl_time.specs.declared.spans.Unit as declared
use Rattle.hl_time.proofs.UnitLaws.{unit_start_mono}
use Rattle.report_cells.specs.Follows.{Follow}

-- what begins by the end of all days begins before what comes after it
begins_later : (unit : declared.Unit) (index n from : ℕ) → from ≡ unit_start unit index → from ≤ 3_652_060 → from ≤ begins unit (index + n)
unfolding begins
begins_later unit index n from is within = omega (arith, unit_start_mono unit index (index + n) (omega arith))

begins_most : (unit : declared.Unit) (index : ℕ) → begins unit index ≤ 3_652_060
unfolding begins
begins_most unit index = omega arith

pub split_follows : (span : Span) (interval : Interval) (parts : List Span) → IsSplit span interval parts → Follow parts
split_follows span interval parts split = record {
  some = split.some;
  joined = split.joined;
  rising = λ at below.
      (let here = split.whole at (omega arith) in
      let next = split.whole (at + 1) below in
      let seam = split.joined at below in
      let within : (part_at parts (at + 1)).from ≤ 3_652_060 = omega (arith, seam, here.2, begins_most interval.unit (here.0 + interval.n)) in
      omega (arith, seam, next.2, begins_later interval.unit next.0 interval.n (part_at parts (at + 1)).from next.1 within));
}

pub alone_follows : (span : Span) → Follow (span ∷ [])
alone_follows span = record {
  some = omega arith;
  joined = λ at below. absurd (omega arith);
  rising = λ at below. absurd (omega arith);
}
