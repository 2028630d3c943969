use Rattle.std.proofs.Common.{Option, sym, ap, ◌∙◌}
use Rattle.book.specs.declared.amount.Amount.{Amount}
use Rattle.entry_balance.specs.Pair.{moves_of}
use Rattle.entry_balance.specs.Tally.{turnover_fits}
use Rattle.entry_balance.proofs.pair.both_fit.Goals as goal

pub returns-in-Some : goal.returns-in-Some
returns-in-Some c = c.twice_fits.ensures c.in-Some.amount.symbol ∙ ap (λ (o : Option Amount). turnover_fits (moves_of o)) (sym c.in-Some.is)

pub returns-in-None : goal.returns-in-None
returns-in-None c = ap (λ (o : Option Amount). turnover_fits (moves_of o)) (sym c.in-None.is)
