use Rattle.std.proofs.Common.{◌-◌}
use Rattle.index_cells.proofs.Merging.{Split}
use Rattle.index_cells.proofs.names.is_named.Given as goal

abbrev pub invariant-loop-low : goal.invariant-loop-low
invariant-loop-low l = Split l.names l.name l.low l.high

abbrev pub decreases-loop-low : goal.decreases-loop-low
decreases-loop-low l = l.high - l.low
