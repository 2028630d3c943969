use Rattle.desk.proofs.Texts.{nothing_new, something_new}
use Rattle.desk.proofs.importing.addition.Goals as goal

pub returns-then-is_empty : goal.returns-then-is_empty
returns-then-is_empty c = nothing_new c.args.live.now.text c.args.new.now c.args.mark c.is_empty.result c.is_empty.ensures c.if-is_empty.true

pub returns : goal.returns
returns c =
    something_new c.args.live.now.text c.args.live.now.year c.args.new.now c.args.mark c.items.result.now c.in_ok-context.context c.in_ok-entry.entry c.is_empty.result c.is_empty.ensures c.if-is_empty.false
    c.requires c.items.ensures c.as_slice.result.now c.as_slice.ensures c.in_ok-context.ensures c.in_ok-entry.ensures
