use Rattle.std.proofs.Common.{◌≡◌, ◌++◌, drop}
use Rattle.journal_printer.specs.Order.{names_from}
use Rattle.journal_printer.proofs.order.names_of.Given as goal

abbrev pub invariant-loop-number : goal.invariant-loop-number
invariant-loop-number l = l.names.items ++ names_from l.number (drop l.number l.txns) ≡ names_from 0 l.txns
