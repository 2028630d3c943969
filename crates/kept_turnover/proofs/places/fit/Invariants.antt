use Rattle.kept_turnover.proofs.Placing.{IsSummed}
use Rattle.kept_turnover.proofs.places.fit.Given as goal

abbrev pub invariant-loop-part : goal.invariant-loop-part
invariant-loop-part l = IsSummed l.parts l.part-index l.sum l.whole
