use Rattle.std.proofs.Common.{◌-◌}
use Rattle.prices.specs.Index.{IsBound}
use Rattle.prices.proofs.index.bound_of.Given as goal

abbrev pub invariant-loop-low : goal.invariant-loop-low
invariant-loop-low l = IsBound l.sorted l.symbol l.target l.day.0 l.low l.high

abbrev pub decreases-loop-low : goal.decreases-loop-low
decreases-loop-low l = l.high - l.low
