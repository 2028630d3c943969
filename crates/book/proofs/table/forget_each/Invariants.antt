use Rattle.std.proofs.Common.{◌≡◌}
use Rattle.book.proofs.Tables.{halfway}
use Rattle.book.proofs.table.forget_each.Given as goal

abbrev pub invariant-loop-at : goal.invariant-loop-at
invariant-loop-at l = l.entries.items ≡ halfway l.number l.at l.initial.entries.items
