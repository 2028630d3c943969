use Rattle.std.proofs.Common.{◌≡◌, [], ◌++◌, List, ap, sym, subst, ◌∙◌}
use Rattle.std.specs.List.{AllByRecursion}
use Rattle.book.specs.Postings.{txns_of}
use Rattle.book.specs.declared.item.Placed.{Placed}
use Rattle.book.specs.declared.transaction.Txn.{Txn}
use Rattle.kept_texts.specs.Keeping.{IsWith}
use Rattle.text_ends.specs.Going.{items_behind}
use Rattle.walked_texts.proofs.Numbered.{behind_room, vacants_of}
use Rattle.walked_texts.proofs.Telling.{blank_vacants, can_put, parts_of}
use Rattle.walked_texts.proofs.making.parts_added.Goals as goal

pub parts_with-requires : goal.parts_with-requires
parts_with-requires c =
    let items = c.args.open.now.items.items in
    let book = c.args.open.now.book.items in
    let vacants = c.in_ok-vacants.ensures ∙ ap (λ (ps : List Placed). vacants_of (txns_of ps)) c.as_slice.ensures in
    can_put (items_behind items c.args.grown.now) book c.as_slice-3.result.now c.in_ok-vacants.vacants.items c.args.sums.now c.args.walk c.as_slice-3.ensures.value
    (ap (λ (v : List Txn). book ++ v) vacants ∙ behind_room items c.args.grown.now book c.requires.size)
    (subst (λ (v : List Txn). AllByRecursion (λ (t : Txn). t.postings ≡ []) v) (sym vacants) (blank_vacants (txns_of c.args.grown.now.items))) c.requires.sums c.requires.walk

pub returns : goal.returns
returns c =
    let items = c.args.open.now.items.items in
    let book = c.args.open.now.book.items in
    let whole = items_behind items c.args.grown.now in
    parts_of c.parts_with.result whole book c.as_slice-3.result.now c.in_ok-vacants.vacants.items c.in_ok-edited.edited c.args.walk c.as_slice-3.ensures.value
    (record {
      room = ap (λ (v : List Txn). book ++ v) (c.in_ok-vacants.ensures ∙ ap (λ (ps : List Placed). vacants_of (txns_of ps)) c.as_slice.ensures) ∙ behind_room items c.args.grown.now book c.requires.size;
      walked = c.requires.walk;
      begun = subst (λ (v : List Txn). IsWith whole (book ++ v) c.in_ok-edited.edited) c.as_slice-2.ensures.value (c.in_ok-edited.ensures items book c.requires.text);
    }) c.parts_with.ensures
