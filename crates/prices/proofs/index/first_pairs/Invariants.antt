use Rattle.std.proofs.Common.{take}
use Rattle.std.specs.Option.{option_copied}
use Rattle.prices.specs.Index.{HasBoth, Stands}
use Rattle.prices.proofs.index.first_pairs.Given as goal

abbrev pub invariant-loop-quote : goal.invariant-loop-quote
invariant-loop-quote l = record {
  both : HasBoth (take l.quote-index l.sorted) l.pairs.items;
  before : Stands (option_copied l.before) (take l.quote-index l.sorted);
}
