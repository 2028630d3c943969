-- The transactions of some items, lent, by their numbers.
use Rattle.std.proofs.Common.{Bor, ◌≡◌, ℕ, ◌+◌, ◌<◌, ◌≤◌, List, [], ◌∷◌, ◌++◌, length, get_or, slice_get, take, Option, Some, None, Result, OnOk, option_map, sym, ap, subst, ◌∙◌, arith}
use Rattle.std.specs.Option.{option_to_list}
use Rattle.std.proofs.lemmas.Grind.{flat_map-append}
use Rattle.std.proofs.lemmas.List.{append-nil, length-map, map-append, take_more}
use Rattle.std.proofs.lemmas.Option.{slice_get-get_or, slice_get-map}
use Rattle.hl_base.specs.declared.fault.Memory.{Memory}
use Rattle.book.specs.Postings.{txn_in, txns_of}
use Rattle.book.specs.declared.item.Item.{Item}
use Rattle.book.specs.declared.item.Placed.{Placed}
use Rattle.book.specs.declared.transaction.Txn.{Txn}
use Rattle.reached_walk.proofs.Noting.{none-at}
use Rattle.kept_books.proofs.Renewing.{lent_of}

-- ---- what is lent

pub lent_found : (txns : List (Bor Txn)) (n : ℕ) (t : Bor Txn) → n < length txns → t ≡ get_or txns n t → Some t.now ≡ slice_get (lent_of txns) n
lent_found txns n t lt is =
    sym (
    slice_get-map (λ (x : Bor Txn). x.now) txns n
    ∙ ap (option_map (λ (x : Bor Txn). x.now)) (slice_get-get_or txns n t lt ∙ ap (λ (x : Bor Txn). Some x) (sym is)))

pub lent_past : (txns : List (Bor Txn)) (n : ℕ) → length txns ≤ n → None ≡ slice_get (lent_of txns) n
lent_past txns n h = sym (none-at (lent_of txns) n (omega (arith, h, length-map txns (λ (t : Bor Txn). t.now))))

pub lent_more : (old now : List (Bor Txn)) (t : Bor Txn) → now ≡ old ++ t ∷ [] → lent_of now ≡ lent_of old ++ t.now ∷ []
lent_more old now t is = ap lent_of is ∙ map-append (λ (x : Bor Txn). x.now) old (t ∷ [])

-- ---- the transaction that an item is, and none

pub entry_some : (r : Result Unit Memory) (old now : List (Bor Txn)) (o : Option Txn) (t : Txn) (i : Item) → option_to_list o ≡ txn_in i → o ≡ Some t → OnOk r (lent_of now ≡ lent_of old ++ t ∷ []) → OnOk r (lent_of now ≡ lent_of old ++ txn_in i)
entry_some r old now o t i e is h = subst (λ (ts : List Txn). OnOk r (lent_of now ≡ lent_of old ++ ts)) (sym (ap option_to_list is) ∙ e) h

pub entry_none : (old : List (Bor Txn)) (o : Option Txn) (i : Item) → option_to_list o ≡ txn_in i → o ≡ None → lent_of old ≡ lent_of old ++ txn_in i
entry_none old o i e is = sym (ap (λ (ts : List Txn). lent_of old ++ ts) (sym e ∙ ap option_to_list is) ∙ append-nil (lent_of old))

-- ---- items one after another

pub txns_more : (items : List Placed) (i : ℕ) (placed : Placed) → i < length items → placed ≡ get_or items i placed → txns_of (take (i + 1) items) ≡ txns_of (take i items) ++ txn_in placed.item
txns_more items i placed lt is =
    ap txns_of (take_more items i placed lt) ∙ flat_map-append (λ (p : Placed). txn_in p.item) (take i items) (get_or items i placed ∷ [])
    ∙ ap (λ (ts : List Txn). txns_of (take i items) ++ ts) (append-nil (txn_in (get_or items i placed).item))
    ∙ ap (λ (p : Placed). txns_of (take i items) ++ txn_in p.item) (sym is)
