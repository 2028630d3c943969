use Rattle.std.proofs.Common.{ap, subst}
use Rattle.placed_sums.specs.Accounts.{HasSymbols}
use Rattle.placed_sums.specs.Placed.{Known}
use Rattle.placed_sums.proofs.placed.SumsAt.symbols.Goals as goal

pub returns-clause-value : goal.returns-clause-value
returns-clause-value g c = ap (λ (k : Known). k.symbols) c.self.view_is

pub returns-clause-all : goal.returns-clause-all
returns-clause-all g c = subst (λ (k : Known). HasSymbols k.symbols k.book) c.self.view_is c.self.invariant.symbols
