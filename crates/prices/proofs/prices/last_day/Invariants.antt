use Rattle.prices.proofs.Days.{IsGreatest}
use Rattle.prices.proofs.prices.last_day.Given as goal

abbrev pub invariant-loop-quote : goal.invariant-loop-quote
invariant-loop-quote l = IsGreatest l.quotes l.quote-index l.greatest
