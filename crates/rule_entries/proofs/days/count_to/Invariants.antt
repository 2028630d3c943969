use Rattle.std.proofs.Common.{◌-◌}
use Rattle.rule_entries.specs.Occurring.{Halved}
use Rattle.rule_entries.proofs.days.count_to.Given as goal

abbrev pub invariant-loop-low : goal.invariant-loop-low
invariant-loop-low l = Halved l.start.0 l.interval l.day l.low l.high

abbrev pub decreases-loop-low : goal.decreases-loop-low
decreases-loop-low l = l.high - l.low
