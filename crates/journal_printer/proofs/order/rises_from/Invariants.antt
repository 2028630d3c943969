use Rattle.std.proofs.Common.{◌≡◌, drop}
use Rattle.journal_printer.specs.Order.{rises_from}
use Rattle.journal_printer.proofs.order.rises_from.Given as goal

abbrev pub invariant-loop-name : goal.invariant-loop-name
invariant-loop-name l = rises_from l.fn.first l.names ≡ rises_from l.last (drop l.name-index l.names)
