use Rattle.std.proofs.Common.{◌≡◌, ◌+◌, ◌≤◌, List, ◌++◌, length, ap, sym, ◌∙◌, append_assoc, arith}
use Rattle.text_ends.specs.Ends.{front_of, last_of}
use Rattle.text_ends.specs.Going.{grown_item}
use Rattle.book.specs.declared.item.Placed.{Placed}
use Rattle.loaded_texts.proofs.Lengths.{grown_count}
use Rattle.loaded_texts.proofs.made.put_grown.Goals as goal

pub put_items-requires : goal.put_items-requires
put_items-requires c =
    omega (arith, c.requires.room, ap length c.lengthen.ensures, grown_count c.args.grown.taken c.args.items.now)

pub returns : goal.returns
returns c =
    let items = c.args.items.now in
    let g = c.args.grown in
    c.put_items.ensures ∙ ap (λ (xs : List Placed). xs ++ g.items) c.lengthen.ensures
    ∙ append_assoc (front_of items) (grown_item g.taken (last_of items)) g.items
