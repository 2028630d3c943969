use Rattle.std.proofs.Common.{◌≡◌, List, [], ◌∷◌, ◌++◌, append_assoc, sym, ap, ◌∙◌, rules}
use Rattle.std.proofs.lemmas.Iterator.Adapters.{YieldsList-from_vec}
use Rattle.std.proofs.lemmas.Iterator.Consumers.{YieldsList-end}
use Rattle.std.proofs.lemmas.List.{append-nil, map-id}
use Rattle.std.proofs.lemmas.Grind.{flat_map-append}
use Rattle.book.specs.Postings.{txn_in, txns_of}
use Rattle.book.specs.declared.item.Placed.{Placed}
use Rattle.book.specs.declared.transaction.Txn.{Txn}
use Rattle.generated.proofs.judging.place_all.Goals as goal

placed_more : (items : List Placed) (before yielded : List Txn) (one : Placed) (txn : Txn) → txns_of items ≡ before ++ yielded → txn_in one.item ≡ txn ∷ []
    → txns_of (items ++ one ∷ []) ≡ before ++ (yielded ++ txn ∷ [])
placed_more items before yielded one txn so is =
    flat_map-append (λ (p : Placed). txn_in p.item) items (one ∷ [])
    ∙ ap (λ (ts : List Txn). txns_of items ++ ts) (append-nil (txn_in one.item) ∙ is)
    ∙ ap (λ (ts : List Txn). ts ++ txn ∷ []) so
    ∙ append_assoc before yielded (txn ∷ [])

pub loop-txn-preserved : goal.loop-txn-preserved
loop-txn-preserved c = record {
  can = tt;
  finite = tt;
  placed = ap txns_of c.in_ok-push.ensures.items
      ∙ placed_more c.loop-txn.items.items (txns_of c.args.items.now.items) c.loop-txn.yielded c.placed.result c.in-Some.txn c.loop-txn.invariant.placed c.placed.ensures;
}

pub returns : goal.returns
returns c =
    let end = YieldsList-end (YieldsList-from_vec {s = c.into_iter-txn-iterator.result} c.args.txns.items (search rules) (search rules)) c.loop-txn.yielded c.loop-txn.txn-iterator c.loop-txn.yielded_by c.next.result c.next.new.self c.in-None.is c.next.ensures.steps in
    c.loop-txn.invariant.placed
    ∙ ap (λ (ts : List Txn). txns_of c.args.items.now.items ++ ts) (sym (map-id c.loop-txn.yielded) ∙ end.0)
