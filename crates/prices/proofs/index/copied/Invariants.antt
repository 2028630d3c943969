use Rattle.std.proofs.Common.{◌≡◌, take}
use Rattle.prices.proofs.index.copied.Given as goal

abbrev pub invariant-loop-quote : goal.invariant-loop-quote
invariant-loop-quote l = l.copies.items ≡ take l.quote-index l.quotes
