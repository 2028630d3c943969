use Rattle.std.proofs.Common.{ℕ, ◌<◌, ◌≤◌, map}
use Rattle.live_index.specs.Series.{GoesOnAt}
use Rattle.live_index.proofs.series.break_from.Given as goal

abbrev pub invariant-loop-at : goal.invariant-loop-at
invariant-loop-at l = (k : ℕ) → l.start ≤ k → k < l.at → GoesOnAt (map (λ r. r.now) l.rows) k
