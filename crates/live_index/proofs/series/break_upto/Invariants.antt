use Rattle.std.proofs.Common.{ℕ, ◌<◌, ◌≤◌, map}
use Rattle.live_index.specs.Series.{GoesOnAt}
use Rattle.live_index.proofs.series.break_upto.Given as goal

abbrev pub invariant-loop-at : goal.invariant-loop-at
invariant-loop-at l = record {
  within : l.at ≤ l.end;
  goes_on : (k : ℕ) → l.at < k → k ≤ l.end → GoesOnAt (map (λ r. r.now) l.rows) k;
}

abbrev pub decreases-loop-at : goal.decreases-loop-at
decreases-loop-at l = l.at
