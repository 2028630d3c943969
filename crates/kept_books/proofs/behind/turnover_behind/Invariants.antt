use Rattle.std.proofs.Common.{take}
use Rattle.kept_books.proofs.Adding.{Moves}
use Rattle.kept_books.proofs.behind.turnover_behind.Given as goal

abbrev pub invariant-loop-txn : goal.invariant-loop-txn
invariant-loop-txn l = Moves l.turnover l.more (take l.txn-index l.txns)
