use Rattle.std.proofs.Common.{◌≡◌, ◌-◌, length, drop}
use Rattle.book.specs.Order.{each_once}
use Rattle.journal_printer.specs.Order.{name_cmp}
use Rattle.journal_printer.proofs.order.sorted.Given as goal

abbrev pub invariant-loop-back : goal.invariant-loop-back
invariant-loop-back l = l.set.keys ≡ each_once name_cmp (drop (length l.names - l.back) l.names)
