use Rattle.std.proofs.Common.{◌≡◌, ◌-◌, ◌^◌, min, take}
use Rattle.std.specs.List.{sum_by}
use Rattle.time_logs.specs.Days.{day_count}
use Rattle.time_logs.proofs.days.days_in.Given as goal

abbrev pub invariant-loop-session : goal.invariant-loop-session
invariant-loop-session l = l.days ≡ min (sum_by day_count (take l.session-index l.sessions)) (2 ^ 64 - 1)
