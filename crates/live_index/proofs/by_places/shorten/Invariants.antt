use Rattle.std.proofs.Common.{◌≡◌, ℕ}
use Rattle.std.specs.Vec.{vec_len}
use Rattle.live_index.specs.Cells.{runs_in}
use Rattle.live_index.proofs.by_places.shorten.Given as goal

abbrev pub invariant-loop-sums : goal.invariant-loop-sums
invariant-loop-sums l = (places : ℕ) → runs_in l.sums.items places ≡ runs_in l.fn.sums.items places

abbrev pub decreases-loop-sums : goal.decreases-loop-sums
decreases-loop-sums l = vec_len l.sums
