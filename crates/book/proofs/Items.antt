-- The transactions among items, one item after another.
use Rattle.std.proofs.Common.{◌≡◌, ℕ, ◌+◌, ◌<◌, List, [], ◌∷◌, ◌++◌, length, take, get_or, sym, ap, ◌∙◌}
use Rattle.std.proofs.lemmas.Grind.{flat_map-append}
use Rattle.std.proofs.lemmas.List.{append-nil, take_more}
use Rattle.book.specs.Postings.{txn_in, txns_of}
use Rattle.book.specs.declared.item.Placed.{Placed}
use Rattle.book.specs.declared.transaction.Txn.{Txn}

pub txns_more : (items : List Placed) (i : ℕ) (placed : Placed) → i < length items → placed ≡ get_or items i placed → txns_of (take (i + 1) items) ≡ txns_of (take i items) ++ txn_in placed.item
txns_more items i placed lt is =
    ap txns_of (take_more items i placed lt) ∙ flat_map-append (λ (p : Placed). txn_in p.item) (take i items) (get_or items i placed ∷ [])
    ∙ ap (λ (ts : List Txn). txns_of (take i items) ++ ts) (append-nil (txn_in (get_or items i placed).item))
    ∙ ap (λ (p : Placed). txns_of (take i items) ++ txn_in p.item) (sym is)
