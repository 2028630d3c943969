use Rattle.std.proofs.Common.{ap, ◌∙◌}
use Rattle.entry_balance.specs.Entry.{costs_fit}
use Rattle.entry_balance.proofs.entry.judged.Goals as goal

pub turnover_fits-requires : goal.turnover_fits-requires
turnover_fits-requires c = ap costs_fit c.as_slice.ensures ∙ c.requires
