use Rattle.live_cells.proofs.Parts.{IsSumThrough}
use Rattle.live_cells.proofs.over_book.sum_over.Given as goal

abbrev pub invariant-loop-txn : goal.invariant-loop-txn
invariant-loop-txn l = IsSumThrough l.account l.symbol l.below l.end.0 l.book l.txn-index l.sum
