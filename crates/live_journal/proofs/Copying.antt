-- Copies of transactions load as these do.
use Rattle.std.proofs.Common.{◌≡◌, ℕ, ◌+◌, ◌<◌, List, [], ◌∷◌, ◌++◌, length, take, get_or, Result, OnOk, sym, ap, subst, ◌∙◌}
use Rattle.std.proofs.lemmas.Grind.{flat_map-append}
use Rattle.std.proofs.lemmas.List.{append-nil, take_more}
use Rattle.hl_base.specs.declared.fault.Memory.{Memory}
use Rattle.hl_base.specs.declared.items.Piece.{Piece}
use Rattle.book.specs.Postings.{txn_in, txns_of}
use Rattle.book.specs.declared.item.Item.{Item}
use Rattle.book.specs.declared.item.Item.TheVariants as item
use Rattle.book.specs.declared.item.Placed.{Placed}
use Rattle.book.specs.declared.transaction.Txn.{Txn}
use Rattle.balancing.specs.Load.{load, load_txns}

pub copy_pushed : (old new : List Placed) (piece : Piece) (t copy : Txn) → new ≡ old ++ record { piece = piece; item = item.Txn copy } ∷ [] → copy ≡ t → txns_of new ≡ txns_of old ++ t ∷ []
copy_pushed old new piece t copy e is =
    ap txns_of e ∙ flat_map-append (λ (p : Placed). txn_in p.item) old (record { piece = piece; item = item.Txn copy } ∷ []) ∙ ap (λ (x : Txn). txns_of old ++ x ∷ []) is

-- an item that is a transaction, and one that isn't
pub entry_pushed : (r : Result Unit Memory) (old new : List Placed) (i : Item) (t : Txn) → i ≡ item.Txn t → OnOk r (txns_of new ≡ txns_of old ++ t ∷ []) → OnOk r (txns_of new ≡ txns_of old ++ txn_in i)
entry_pushed r old new i t is h = subst (λ (x : Item). OnOk r (txns_of new ≡ txns_of old ++ txn_in x)) (sym is) h

pub nothing_pushed : (old : List Placed) (i seen : Item) → i ≡ seen → txn_in seen ≡ [] → txns_of old ≡ txns_of old ++ txn_in i
nothing_pushed old i seen is none = sym (ap (λ (x : Item). txns_of old ++ txn_in x) is ∙ ap (λ (ts : List Txn). txns_of old ++ ts) none ∙ append-nil (txns_of old))

-- the book is one of the transactions alone
pub same_load : (xs ys : List Placed) → txns_of xs ≡ txns_of ys → load xs ≡ load ys
same_load xs ys e = ap load_txns e

-- one more item
pub entry_more : (items : List Placed) (i : ℕ) (placed : Placed) (old new : List Placed) → i < length items → placed ≡ get_or items i placed → txns_of old ≡ txns_of (take i items)
    → txns_of new ≡ txns_of old ++ txn_in placed.item → txns_of new ≡ txns_of (take (i + 1) items)
entry_more items i placed old new lt is before e =
    let last : txns_of (take (i + 1) items) ≡ txns_of (take i items) ++ txn_in (get_or items i placed).item =
    ap txns_of (take_more items i placed lt) ∙ flat_map-append (λ (p : Placed). txn_in p.item) (take i items) (get_or items i placed ∷ [])
    ∙ ap (λ (ts : List Txn). txns_of (take i items) ++ ts) (append-nil (txn_in (get_or items i placed).item)) in
    e ∙ ap (λ (ts : List Txn). ts ++ txn_in placed.item) before ∙ ap (λ (x : Placed). txns_of (take i items) ++ txn_in x.item) is ∙ sym last
