use Rattle.std.proofs.Common.{◌≡◌, ◌++◌}
use Rattle.journal_printer.proofs.order.listed.Given as goal

abbrev pub invariant-loop-name : goal.invariant-loop-name
invariant-loop-name l = l.list.items ++ l.name-iterator ≡ l.set.keys
