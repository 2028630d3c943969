use Rattle.std.proofs.Common.{◌≡◌, map, take}
use Rattle.report_values.specs.Days.{dated_of, day_of}
use Rattle.report_values.proofs.days.days_of.Given as goal

abbrev pub invariant-loop-column : goal.invariant-loop-column
invariant-loop-column l = l.days.items ≡ map (day_of (dated_of l.asked) l.when) (take l.column-index l.columns)
