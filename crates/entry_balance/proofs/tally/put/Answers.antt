use Rattle.std.proofs.Common.{ap, ◌∙◌}
use Rattle.entry_balance.specs.Tally.{named}
use Rattle.entry_balance.proofs.Named.{named-insert}
use Rattle.entry_balance.proofs.tally.put.Goals as goal

pub returns-in-Ok-clause-ok : goal.returns-in-Ok-clause-ok
returns-in-Ok-clause-ok c = ap named c.in-Ok.ensures.entries ∙ named-insert c.args.sums.now.entries c.args.symbol c.args.sum
