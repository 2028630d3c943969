use Rattle.std.proofs.Common.{◌∙◌}
use Rattle.placed_sums.specs.Placed.{place_of}
use Rattle.placed_sums.proofs.Besides.{other_is}
use Rattle.placed_sums.proofs.placed.SumsAtSums.other.Goals as goal

pub returns-clause-symbol : goal.returns-clause-symbol
returns-clause-symbol g c =
    let k = c.args.self.now in
    c.first_other.ensures.symbol ∙ other_is k.book c.args.account.now c.args.below (place_of k.day k.number) k.symbols c.first_other.ensures.all c.args.symbol.now
