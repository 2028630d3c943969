use Rattle.std.proofs.Common.{refl}
use Rattle.walked_texts.proofs.Numbered.{item_held, nothing_held}
use Rattle.walked_texts.proofs.vacating.push_for.Goals as goal

pub returns-in-Txn : goal.returns-in-Txn
returns-in-Txn c = item_held c.push_vacant.result c.args.vacants.now.items c.push_vacant.new.vacants.items c.args.item.now c.in-Txn.txn c.in-Txn.is c.push_vacant.ensures

pub returns-in-Gap : goal.returns-in-Gap
returns-in-Gap c = nothing_held c.args.vacants.now.items c.args.item.now _ c.in-Gap.is refl

pub returns-in-Block : goal.returns-in-Block
returns-in-Block c = nothing_held c.args.vacants.now.items c.args.item.now _ c.in-Block.is refl

pub returns-in-Auto : goal.returns-in-Auto
returns-in-Auto c = nothing_held c.args.vacants.now.items c.args.item.now _ c.in-Auto.is refl

pub returns-in-Periodic : goal.returns-in-Periodic
returns-in-Periodic c = nothing_held c.args.vacants.now.items c.args.item.now _ c.in-Periodic.is refl

pub returns-in-Price : goal.returns-in-Price
returns-in-Price c = nothing_held c.args.vacants.now.items c.args.item.now _ c.in-Price.is refl

pub returns-in-Directive : goal.returns-in-Directive
returns-in-Directive c = nothing_held c.args.vacants.now.items c.args.item.now _ c.in-Directive.is refl
