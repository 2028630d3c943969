use Rattle.std.proofs.Common.{◌+◌, refl}
use Rattle.moved_lines.specs.Moving.{moved_placed}
use Rattle.changed_texts.proofs.Places.{old_is, put_is}
use Rattle.changed_texts.proofs.putting.put_change.Goals as goal

pub returns-clause-items : goal.returns-clause-items
returns-clause-items c =
    put_is (moved_placed c.args.change.by) c.args.number (c.args.number + 1) c.args.change.placed c.args.items.now c.move_items.new.items c.put_item.new.items refl
    c.requires.number c.move_items.ensures c.put_item.ensures.items

pub returns-clause-old : goal.returns-clause-old
returns-clause-old c =
    old_is (moved_placed c.args.change.by) c.args.number (c.args.number + 1) c.put_item.result c.args.items.now c.move_items.new.items refl
    c.requires.number c.move_items.ensures c.put_item.ensures.old
