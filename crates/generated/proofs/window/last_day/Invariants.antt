use Rattle.std.proofs.Common.{◌≡◌, drop}
use Rattle.generated.specs.Windows.{last_day_of, later_of}
use Rattle.generated.proofs.window.last_day.Given as goal

abbrev pub invariant-loop-txn : goal.invariant-loop-txn
invariant-loop-txn l = later_of l.last (last_day_of (drop l.txn-index l.txns)) ≡ last_day_of l.txns
