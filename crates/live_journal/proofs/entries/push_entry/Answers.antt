use Rattle.std.proofs.Common.{refl}
use Rattle.live_journal.proofs.Copying.{entry_pushed, nothing_pushed}
use Rattle.live_journal.proofs.entries.push_entry.Goals as goal

pub returns-in-Txn : goal.returns-in-Txn
returns-in-Txn c = entry_pushed c.push_copy.result c.args.copies.now.items c.push_copy.new.copies.items c.args.placed.now.item c.in-Txn.txn c.in-Txn.is c.push_copy.ensures

pub returns-in-Gap : goal.returns-in-Gap
returns-in-Gap c = nothing_pushed c.args.copies.now.items c.args.placed.now.item _ c.in-Gap.is refl

pub returns-in-Block : goal.returns-in-Block
returns-in-Block c = nothing_pushed c.args.copies.now.items c.args.placed.now.item _ c.in-Block.is refl

pub returns-in-Auto : goal.returns-in-Auto
returns-in-Auto c = nothing_pushed c.args.copies.now.items c.args.placed.now.item _ c.in-Auto.is refl

pub returns-in-Periodic : goal.returns-in-Periodic
returns-in-Periodic c = nothing_pushed c.args.copies.now.items c.args.placed.now.item _ c.in-Periodic.is refl

pub returns-in-Price : goal.returns-in-Price
returns-in-Price c = nothing_pushed c.args.copies.now.items c.args.placed.now.item _ c.in-Price.is refl

pub returns-in-Directive : goal.returns-in-Directive
returns-in-Directive c = nothing_pushed c.args.copies.now.items c.args.placed.now.item _ c.in-Directive.is refl
