use Rattle.std.proofs.Common.{◌+◌, refl}
use Rattle.changed_texts.proofs.Joints.{beside_before, beside_behind, is_spread}
use Rattle.changed_texts.proofs.beside.put_entry.Goals as goal

pub joined_before-after-requires-clause-gap : goal.joined_before-after-requires-clause-gap
joined_before-after-requires-clause-gap c =
    let parts = c.args.parts in
    beside_behind c.args.number (c.args.number + 1) c.args.items.now c.args.by parts.before parts.behind parts.placed c.requires.number c.requires.before c.requires.behind c.requires.entry refl
    c.put_change-old.new.items c.put_change-old.ensures.items

pub joined_behind-ahead-requires-clause-gap : goal.joined_behind-ahead-requires-clause-gap
joined_behind-ahead-requires-clause-gap c =
    let parts = c.args.parts in
    let after = c.joined_before-after.ensures in
    beside_before c.args.number (c.args.number + 1) c.args.items.now c.args.by parts.before parts.behind parts.placed c.requires.number c.requires.before c.requires.behind c.requires.entry refl
    c.put_change-old.new.items c.put_change-old.ensures.items c.joined_before-after.new.items c.joined_before-after.result after.front after.joined after.left after.length

pub returns : goal.returns
returns c =
    let parts = c.args.parts in
    let after = c.joined_before-after.ensures in
    let ahead = c.joined_behind-ahead.ensures in
    is_spread c.args.number (c.args.number + 1) c.args.items.now c.args.by parts.before parts.behind parts.placed c.requires.number c.requires.before c.requires.behind c.requires.entry refl
    c.put_change-old.new.items c.put_change-old.ensures.items c.joined_before-after.new.items c.joined_before-after.result after.front after.joined after.left after.length
    c.joined_behind-ahead.new.items c.joined_behind-ahead.result ahead.rest ahead.joined ahead.left ahead.length
