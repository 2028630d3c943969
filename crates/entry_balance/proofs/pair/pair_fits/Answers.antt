use Rattle.std.proofs.Common.{sym, ap, ◌∙◌}
use Rattle.entry_balance.specs.Tally.{turnover_fits}
use Rattle.entry_balance.proofs.Doubled.{pair_moves}
use Rattle.entry_balance.proofs.pair.pair_fits.Goals as goal

pub returns : goal.returns
returns c = c.first_fits.ensures ∙ ap turnover_fits (sym (pair_moves c.args.postings.now c.requires))
