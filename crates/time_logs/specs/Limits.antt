-- How many transactions a log gives.
use Rattle.std.specs.Prelude.{ℕ, nat_lt, Result, Ok, Err, if◌then◌else◌}
use Rattle.time_logs.specs.declared.faults.LogFault.{LogFault}
use Rattle.time_logs.specs.declared.faults.LogFault.TheVariants as faults

-- the greatest number
abbrev pub most_entries : ℕ
most_entries = 100000

-- what is made of a number of transactions, where they aren't too many
abbrev pub limited : {A : Type 0} → ℕ → A → Result A LogFault
limited count made = if nat_lt most_entries count then Err (faults.TooMany count most_entries) else Ok made
