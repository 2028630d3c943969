use Rattle.std.proofs.Common.{◌≡◌, ◌++◌, take}
use Rattle.std.specs.List.{flat_map}
use Rattle.time_logs.specs.Days.{entries_of}
use Rattle.time_logs.proofs.days.push_entries.Given as goal

abbrev pub invariant-loop-session : goal.invariant-loop-session
invariant-loop-session l = l.txns.items ≡ l.initial.txns.items ++ flat_map entries_of (take l.session-index l.sessions)
