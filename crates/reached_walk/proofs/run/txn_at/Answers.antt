use Rattle.reached_walk.proofs.Noting.{got-at}
use Rattle.reached_walk.proofs.run.txn_at.Goals as goal

pub returns : goal.returns
returns c = got-at c.args.txns.now c.args.number c.index-txns-number.result c.requires c.index-txns-number.is
