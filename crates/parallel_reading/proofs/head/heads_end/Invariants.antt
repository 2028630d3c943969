use Rattle.std.proofs.Common.{◌≡◌, ◌-◌, false, length, drop}
use Rattle.parallel_reading.specs.Runs.{has_head}
use Rattle.parallel_reading.proofs.head.heads_end.Given as goal

abbrev pub invariant-loop-behind : goal.invariant-loop-behind
invariant-loop-behind l = has_head l.text (drop (length l.pieces - l.behind) l.pieces) ≡ false
