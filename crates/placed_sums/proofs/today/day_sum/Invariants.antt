use Rattle.placed_sums.proofs.Adding.{IsSumThrough}
use Rattle.placed_sums.proofs.today.day_sum.Given as goal

abbrev pub invariant-loop-place : goal.invariant-loop-place
invariant-loop-place g l = IsSumThrough (g.B.ByNumber.txns l.book) l.account l.symbol l.below l.day.0 l.places l.place-index l.sum
