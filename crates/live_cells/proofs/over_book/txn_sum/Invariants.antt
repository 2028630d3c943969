use Rattle.live_cells.proofs.Parts.{IsSumTo}
use Rattle.live_cells.proofs.over_book.txn_sum.Given as goal

abbrev pub invariant-loop-posting : goal.invariant-loop-posting
invariant-loop-posting l = IsSumTo l.account l.symbol l.below l.end.0 l.txn l.posting-index l.sum
