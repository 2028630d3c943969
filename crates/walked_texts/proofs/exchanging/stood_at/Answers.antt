use Rattle.walked_texts.proofs.Exchanged.{stood}
use Rattle.walked_texts.proofs.exchanging.stood_at.Goals as goal

pub returns : goal.returns
returns c = stood c.args.txns.now c.args.number c.index-txns-number.result c.requires c.index-txns-number.is
