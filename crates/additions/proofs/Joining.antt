-- The transactions of a text with bytes behind it: those of the text, and those of what was read behind it.
use Rattle.std.proofs.Common.{◌≡◌, ℕ, suc, ◌-◌, List, [], ◌∷◌, ◌++◌, length, take, refl, sym, ap, ◌∙◌, arith, append_assoc}
use Rattle.std.proofs.lemmas.Grind.{flat_map-append}
use Rattle.book.specs.Postings.{txn_in, txns_of}
use Rattle.book.specs.declared.item.Placed.{Placed}
use Rattle.book.specs.declared.transaction.Txn.{Txn}
use Rattle.text_ends.specs.Ends.{front_of, last_of}
use Rattle.text_ends.specs.Going.{grown_item, items_behind}
use Rattle.text_ends.specs.declared.reading.Grown.{Grown}
use Rattle.text_ends.proofs.Measures.{last_cons}

front_cons : (x y : Placed) (zs : List Placed) → front_of (x ∷ y ∷ zs) ≡ x ∷ front_of (y ∷ zs)
front_cons x y zs = ap (λ (k : ℕ). take k (x ∷ y ∷ zs)) (let e : length (x ∷ y ∷ zs) - 1 ≡ suc (length (y ∷ zs) - 1) = omega arith in e)

-- an item whose piece is longer says the same
same_txns : (more : ℕ) (items : List Placed) → txns_of (front_of items) ++ txns_of (grown_item more (last_of items)) ≡ txns_of items
same_txns more [] = refl
same_txns more (x ∷ []) = refl
same_txns more (x ∷ y ∷ zs) =
    (λ i. txns_of (front_cons x y zs i) ++ txns_of (grown_item more (last_cons x y zs i)))
    ∙ append_assoc (txn_in x.item) (txns_of (front_of (y ∷ zs))) (txns_of (grown_item more (last_of (y ∷ zs))))
    ∙ ap (λ (ts : List Txn). txn_in x.item ++ ts) (same_txns more (y ∷ zs))

both_txns : (xs ys : List Placed) → txns_of (xs ++ ys) ≡ txns_of xs ++ txns_of ys
both_txns xs ys = flat_map-append (λ (p : Placed). txn_in p.item) xs ys

pub txns_behind : (items : List Placed) (g : Grown) → txns_of (items_behind items g) ≡ txns_of items ++ txns_of g.items
txns_behind items g =
    let front = front_of items in
    let last = grown_item g.taken (last_of items) in
    both_txns front (last ++ g.items)
    ∙ ap (λ (ts : List Txn). txns_of front ++ ts) (both_txns last g.items)
    ∙ sym (append_assoc (txns_of front) (txns_of last) (txns_of g.items))
    ∙ ap (λ (ts : List Txn). ts ++ txns_of g.items) (same_txns g.taken items)
