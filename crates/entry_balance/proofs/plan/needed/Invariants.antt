use Rattle.std.proofs.Common.{◌≡◌, take}
use Rattle.entry_balance.specs.Tally.{named}
use Rattle.entry_balance.specs.Entry.{needed}
use Rattle.entry_balance.proofs.plan.needed.Given as goal

abbrev pub invariant-loop-sum : goal.invariant-loop-sum
invariant-loop-sum l = l.found.items ≡ needed (named (take l.sum-index l.sums))
