use Rattle.placed_sums.proofs.Adding.{IsSumTo}
use Rattle.placed_sums.proofs.today.txn_sum.Given as goal

abbrev pub invariant-loop-posting : goal.invariant-loop-posting
invariant-loop-posting l = IsSumTo l.account l.symbol l.below l.day.0 l.txn l.posting-index l.sum
