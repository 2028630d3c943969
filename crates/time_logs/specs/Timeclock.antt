-- The transactions of a timeclock text.
use Rattle.std.specs.Prelude.{ℕ, List, Result}
use Rattle.std.specs.List.{flat_map}
use Rattle.book.specs.declared.transaction.Txn.{Txn}
use Rattle.time_logs.specs.Days.{days_in, entries_of}
use Rattle.time_logs.specs.Faults.{◌>>=◌}
use Rattle.time_logs.specs.Limits.{limited}
use Rattle.time_logs.specs.Sessions.{sessions_in}
use Rattle.time_logs.specs.declared.faults.LogFault.{LogFault}
use Rattle.time_logs.specs.declared.sessions.Session.{Session}

-- one for each day of each session
abbrev pub sessions_entries : List Session → Result (List Txn) LogFault
sessions_entries ss = limited (days_in ss) (flat_map entries_of ss)

-- The transactions of a timeclock text's lines, or the first fault.
abbrev pub timeclock : List (List ℕ) → Result (List Txn) LogFault
timeclock ls = sessions_in ls >>= sessions_entries
