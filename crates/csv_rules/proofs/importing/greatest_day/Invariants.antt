use Rattle.std.proofs.Common.{◌≡◌, take}
use Rattle.csv_rules.specs.Importing.{greatest_day}
use Rattle.csv_rules.proofs.importing.greatest_day.Given as goal

abbrev pub invariant-loop-txn : goal.invariant-loop-txn
invariant-loop-txn l = l.greatest ≡ greatest_day (take l.txn-index l.txns)
