use Rattle.std.proofs.Common.{◌≡◌, ◌≤◌, length, drop, filter}
use Rattle.std.specs.Option.{option_copied}
use Rattle.prices.specs.Quotes.{newest, is_of}
use Rattle.prices.proofs.prices.newest_of.Given as goal

abbrev pub invariant-loop-i : goal.invariant-loop-i
invariant-loop-i l = record {
  within : l.i ≤ length l.quotes;
  best : option_copied l.best ≡ newest (filter (is_of l.symbol l.day.0) (drop l.i l.quotes));
}

abbrev pub decreases-loop-i : goal.decreases-loop-i
decreases-loop-i l = l.i
