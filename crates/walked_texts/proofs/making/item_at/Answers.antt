use Rattle.walked_texts.proofs.Numbered.{stood_there}
use Rattle.walked_texts.proofs.making.item_at.Goals as goal

pub returns : goal.returns
returns c = stood_there c.args.items.now c.args.number c.index-items-number.result c.requires c.index-items-number.is
