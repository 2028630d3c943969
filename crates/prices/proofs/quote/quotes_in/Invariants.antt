use Rattle.std.proofs.Common.{◌≡◌, take}
use Rattle.prices.specs.Quotes.{quotes_in}
use Rattle.prices.proofs.quote.quotes_in.Given as goal

abbrev pub invariant-loop-placed : goal.invariant-loop-placed
invariant-loop-placed l = l.quotes.items ≡ quotes_in (take l.placed-index l.placed-items)
