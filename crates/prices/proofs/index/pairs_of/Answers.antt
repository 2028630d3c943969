use Rattle.prices.proofs.Both.{both_sorted}
use Rattle.prices.proofs.index.pairs_of.Goals as goal

pub returns-clause-both : goal.returns-clause-both
returns-clause-both c = both_sorted c.args.sorted.now c.in_ok-pairs.pairs.items c.sort.new.self.items c.in_ok-sort.ensures.permutation c.in_ok-pairs.ensures
