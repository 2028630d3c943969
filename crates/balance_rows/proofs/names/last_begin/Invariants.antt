use Rattle.std.proofs.Common.{◌≡◌, ◌==◌, ℕ, ◌<◌, ◌≤◌, true, not, get_or, length}
use Rattle.hl_base.specs.Ascii.{colon}
use Rattle.balance_rows.proofs.names.last_begin.Given as goal

-- no colon was passed
abbrev pub invariant-loop-start : goal.invariant-loop-start
invariant-loop-start l = record {
  within : l.start ≤ length l.name;
  solid : (k : ℕ) → l.start ≤ k → k < length l.name → not (get_or l.name k 0 == colon) ≡ true;
}

abbrev pub decreases-loop-start : goal.decreases-loop-start
decreases-loop-start l = l.start
