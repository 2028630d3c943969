use Rattle.std.proofs.Common.{◌≡◌, ◌++◌}
use Rattle.entry_balance.proofs.tally.listed.Given as goal

abbrev pub invariant-loop-symbol : goal.invariant-loop-symbol
invariant-loop-symbol l = l.list.items ++ l.symbol-iterator ≡ l.sums.entries
