use Rattle.std.proofs.Common.{◌≡◌, ap, sym, subst, ◌∙◌}
use Rattle.loaded_texts.proofs.Loads.{added_if, loaded_has, loaded_solves, whole_solves}
use Rattle.loaded_texts.proofs.adding.plain_addition.Goals as goal

pub plain_parts-requires-clause-text : goal.plain_parts-requires-clause-text
plain_parts-requires-clause-text c = loaded_has c.args.behind.now.year c.args.behind.now.text.now c.args.loaded.now c.requires.loaded

pub plain_parts-requires-clause-kept : goal.plain_parts-requires-clause-kept
plain_parts-requires-clause-kept c = c.requires.loaded.of_book

pub plain_parts-requires-clause-solves : goal.plain_parts-requires-clause-solves
plain_parts-requires-clause-solves c = loaded_solves c.args.behind.now.year c.args.behind.now.text.now c.args.loaded.now c.requires.loaded

pub plain_parts-requires-clause-written : goal.plain_parts-requires-clause-written
plain_parts-requires-clause-written c = c.requires.grown.reads.written

pub plain_parts-requires-clause-whole : goal.plain_parts-requires-clause-whole
plain_parts-requires-clause-whole c =
    whole_solves c.args.behind.now.year c.args.behind.now.text.now c.args.behind.now.bytes.now c.args.loaded.now.items c.args.loaded.now.book.txns c.args.grown c.args.plain c.requires.grown c.requires.adds

pub plain_parts-requires-clause-adds : goal.plain_parts-requires-clause-adds
plain_parts-requires-clause-adds c = c.requires.adds

pub returns : goal.returns
returns c =
    added_if c.args.behind.now.year c.args.behind.now.text.now c.args.behind.now.bytes.now c.args.loaded.now c.args.grown c.in_ok-parts.parts c.with_room.result
    c.requires.loaded c.requires.grown c.in_ok-parts.ensures c.with_room.ensures.grown c.with_room.ensures.parts c.with_room.ensures.room
