use Rattle.balancing.proofs.Wanting.{unasked}
use Rattle.balancing.proofs.walk.balances_of.Goals as goal

pub returns-clause-asked : goal.returns-clause-asked
returns-clause-asked c = unasked c.new.result.own c.new.result.below c.args.txns.now (c.requires c.if-asks.false)
