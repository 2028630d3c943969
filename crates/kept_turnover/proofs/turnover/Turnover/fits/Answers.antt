use Rattle.std.proofs.Common.{◌∙◌}
use Rattle.kept_turnover.proofs.Fitting.{fits-is}
use Rattle.kept_turnover.proofs.turnover.Turnover.fits.Goals as goal

pub returns : goal.returns
returns c = λ values h. c.all_fit.ensures ∙ fits-is c.args.self.now.symbols values c.len-symbols.ensures.ordered h
