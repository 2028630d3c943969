use Rattle.std.proofs.Common.{ap, ◌∙◌}
use Rattle.entry_balance.specs.Tally.{numbers_of}
use Rattle.kept_turnover.specs.Keeping.{sum_in}
use Rattle.kept_turnover.specs.Moved.{with_places}
use Rattle.kept_turnover.specs.declared.part.Part.{Part}
use Rattle.kept_turnover.proofs.Holding.{part-count, part-sum}
use Rattle.kept_turnover.proofs.Ranged.{ranged}
use Rattle.kept_turnover.proofs.Units.{fits-iff}
use Rattle.kept_turnover.proofs.laws.turnover_is_whole.Goals as goal

pub returns-clause-fits : goal.returns-clause-fits
returns-clause-fits c = fits-iff

pub returns-clause-range : goal.returns-clause-range
returns-clause-range c = ranged

pub returns-clause-count : goal.returns-clause-count
returns-clause-count c = λ t values h symbol n. ap (λ (p : Part). p.count) (h.is symbol n) ∙ part-count (with_places n (numbers_of symbol values))

pub returns-clause-sum : goal.returns-clause-sum
returns-clause-sum c = λ t values h symbol n. ap sum_in (h.is symbol n) ∙ part-sum (with_places n (numbers_of symbol values))
