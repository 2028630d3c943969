use Rattle.std.proofs.Common.{refl, sym, ap, subst, ◌∙◌}
use Rattle.loaded_texts.specs.Standing.{book_by}
use Rattle.loaded_texts.proofs.Loads.{taken_in}
use Rattle.loaded_texts.proofs.made.take_addition.Goals as goal

pub put_behind-requires : goal.put_behind-requires
put_behind-requires c = c.requires.comes

pub put_grown-requires-clause-longer : goal.put_grown-requires-clause-longer
put_grown-requires-clause-longer c = c.requires.longer

pub put_grown-requires-clause-room : goal.put_grown-requires-clause-room
put_grown-requires-clause-room c = c.requires.room.item_room

pub put_txns-requires-clause-room : goal.put_txns-requires-clause-room
put_txns-requires-clause-room c = c.requires.room.txn_room

pub put_txns-requires-clause-inside : goal.put_txns-requires-clause-inside
put_txns-requires-clause-inside c = c.requires.inside

pub returns : goal.returns
returns c = λ year text h adds.
    let old = c.args.loaded.now in
    let a = c.args.addition in
    let of = h.of_text in
    let makes = adds.makes in
    taken_in year text c.args.bytes.now old _ a adds c.put_grown.ensures c.put_txns.ensures refl refl
    (c.put_behind.ensures year text old.items (book_by old.book.txns a.parts) h.read of.end makes.edited)
