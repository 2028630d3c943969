use Rattle.std.proofs.Common.{◌-◌}
use Rattle.report_cells.proofs.Counting.{Between}
use Rattle.report_cells.proofs.place.first_after.Given as goal

abbrev pub invariant-loop-low : goal.invariant-loop-low
invariant-loop-low l = Between l.columns l.day l.low l.high

abbrev pub decreases-loop-low : goal.decreases-loop-low
decreases-loop-low l = l.high - l.low
