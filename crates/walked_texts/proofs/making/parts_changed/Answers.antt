use Rattle.std.specs.List.{AllByRecursion}
use Rattle.std.proofs.Common.{◌≡◌, [], ◌++◌, ◌<◌, List, length, set, slice_get, Some, refl, sym, ap, subst, ◌∙◌}
use Rattle.book.specs.declared.item.Placed.{Placed}
use Rattle.book.specs.declared.transaction.Txn.{Txn}
use Rattle.walked_texts.proofs.Numbered.{inside_items, same_room, stands_at}
use Rattle.walked_texts.proofs.Telling.{can_put, parts_of, with_none}
use Rattle.walked_texts.proofs.making.parts_changed.Goals as goal

pub item_at-old-requires : goal.item_at-old-requires
item_at-old-requires c =
    let items = c.args.open.now.items.items in
    let at = stands_at items c.args.at.now.number c.requires.there in
    subst (λ (ps : List Placed). c.args.at.now.number < length ps) (sym c.as_slice.ensures.value) (inside_items items c.args.at.now.number at.was at.got)

pub parts_with-requires : goal.parts_with-requires
parts_with-requires c =
    let items = c.args.open.now.items.items in
    let book = c.args.open.now.book.items in
    let at = c.args.at.now in
    can_put (set items at.number at.placed.now) book c.as_slice-2.result.now c.new-vacants.result.items c.args.sums.now c.args.walk c.as_slice-2.ensures.value
    (ap (λ (v : List Txn). book ++ v) c.new-vacants.ensures.items ∙ same_room items at.number at.placed.now book c.requires.there c.requires.txn c.requires.size)
    (subst (λ (v : List Txn). AllByRecursion (λ (t : Txn). t.postings ≡ []) v) (sym c.new-vacants.ensures.items) tt) c.requires.sums c.requires.walk

pub returns : goal.returns
returns c =
    let items = c.args.open.now.items.items in
    let book = c.args.open.now.book.items in
    let at = c.args.at.now in
    let whole = set items at.number at.placed.now in
    let found = subst (λ (ps : List Placed). slice_get ps at.number ≡ Some c.item_at-old.result.now) c.as_slice.ensures.value c.item_at-old.ensures in
    parts_of c.parts_with.result whole book c.as_slice-2.result.now c.new-vacants.result.items c.in_ok-edited.edited c.args.walk c.as_slice-2.ensures.value
    (record {
      room = ap (λ (v : List Txn). book ++ v) c.new-vacants.ensures.items ∙ same_room items at.number at.placed.now book c.requires.there c.requires.txn c.requires.size;
      walked = c.requires.walk;
      begun = with_none whole book c.new-vacants.result.items c.in_ok-edited.edited c.new-vacants.ensures.items (c.in_ok-edited.ensures items book c.item_at-old.result.now at.placed.now c.requires.text found refl refl);
    }) c.parts_with.ensures
