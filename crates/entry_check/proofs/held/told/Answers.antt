use Rattle.std.proofs.Common.{ℤ, ap, ◌∙◌}
use Rattle.entry_balance.specs.Values.{trimmed}
use Rattle.entry_check.proofs.held.told.Goals as goal

pub returns-clause-value : goal.returns-clause-value
returns-clause-value g c = c.trimmed.ensures.shortest ∙ ap (λ (u : ℤ). trimmed u 36) c.before-2.ensures.sum
