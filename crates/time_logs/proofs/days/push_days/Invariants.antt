use Rattle.std.proofs.Common.{◌≡◌, ◌++◌, ◌-◌, map}
use Rattle.std.specs.List.{range_with_len}
use Rattle.time_logs.specs.Days.{entry_on}
use Rattle.time_logs.proofs.days.push_days.Given as goal

abbrev pub invariant-loop-day : goal.invariant-loop-day
invariant-loop-day l = l.txns.items ≡ l.initial.txns.items ++ map (entry_on l.session) (range_with_len l.first (l.day - l.first))
