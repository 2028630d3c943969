-- The transactions of items by their numbers.
use Rattle.std.proofs.Common.{◌≡◌, ℕ, zero, suc, ◌+◌, ◌<◌, List, [], ◌∷◌, ◌++◌, length, map, take, drop, set, get_or, slice_get, Option, Some, None, IsSomeAnd, Result, OnOk, refl, sym, ap, subst, ◌∙◌, arith, length-append}
use Rattle.std.proofs.lemmas.Grind.{flat_map-append}
use Rattle.std.proofs.lemmas.List.{append-nil, drop_all, drop_at, length-set, map-append, take_more}
use Rattle.std.proofs.lemmas.Option.{none-some, same_Some, slice_get-get_or}
use Rattle.hl_base.specs.declared.fault.Memory.{Memory}
use Rattle.book.specs.Postings.{txn_in, txns_of}
use Rattle.book.proofs.Items.{txns_more}
use Rattle.book.specs.declared.item.Item.{Item}
use Rattle.book.specs.declared.item.Item.TheVariants as item
use Rattle.book.specs.declared.item.Placed.{Placed}
use Rattle.book.specs.declared.transaction.Txn.{Txn}
use Rattle.text_ends.specs.Going.{items_behind}
use Rattle.text_ends.specs.declared.reading.Grown.{Grown}
use Rattle.additions.proofs.Joining.{txns_behind}
use Rattle.walked_edits.specs.Forms.{vacant}
use Rattle.walked_texts.specs.Making.{IsTxn, IsTxnAt, number_at, room_for}

-- ---- an item that is a transaction, and another one in its place

module _ (new : Placed) (old t : Txn) (is_new : new.item ≡ item.Txn t) where
  set_front : (xs : List Placed) (x : Placed) → x.item ≡ item.Txn old → txns_of (new ∷ xs) ≡ set (txns_of (x ∷ xs)) 0 t
  set_front xs x is = ap (λ (i : Item). txn_in i ++ txns_of xs) is_new ∙ sym (ap (λ (i : Item). set (txn_in i ++ txns_of xs) 0 t) is)

  set_behind : (front xs : List Txn) (k n : ℕ) → k ≡ length front + n → set (front ++ xs) k t ≡ front ++ set xs n t
  set_behind [] xs k n e = ap (λ (m : ℕ). set xs m t) (omega (arith, e))
  set_behind (f ∷ fs) xs zero n e = absurd (omega (arith, e))
  set_behind (f ∷ fs) xs (suc k) n e = ap (λ (ts : List Txn). f ∷ ts) (set_behind fs xs k n (omega (arith, e)))

  pub txns_changed : (items : List Placed) (n : ℕ) (was : Placed) → slice_get items n ≡ Some was → was.item ≡ item.Txn old → txns_of (set items n new) ≡ set (txns_of items) (number_at items n) t
  txns_changed [] n was got is = absurd (none-some was got)
  txns_changed (x ∷ xs) zero was got is = set_front xs x (ap (λ (p : Placed). p.item) (same_Some x was got) ∙ is)
  txns_changed (x ∷ xs) (suc n) was got is =
      ap (λ (ts : List Txn). txn_in x.item ++ ts) (txns_changed xs n was got is)
      ∙ sym (set_behind (txn_in x.item) (txns_of xs) (number_at (x ∷ xs) (suc n)) (number_at xs n) (length-append (txn_in x.item) (txns_of (take n xs))))

pub number_inside : (items : List Placed) (n : ℕ) (was : Placed) (old : Txn) → slice_get items n ≡ Some was → was.item ≡ item.Txn old → number_at items n < length (txns_of items)
number_inside [] n was old got is = absurd (none-some was got)
number_inside (x ∷ xs) zero was old got is =
    let own : x.item ≡ item.Txn old = ap (λ (p : Placed). p.item) (same_Some x was got) ∙ is in
    let some : 0 < length (old ∷ txns_of xs) = omega arith in
    subst (λ (i : Item). 0 < length (txn_in i ++ txns_of xs)) (sym own) some
number_inside (x ∷ xs) (suc n) was old got is =
    let less = number_inside xs n was old got is in
    let front = length-append (txn_in x.item) (txns_of (take n xs)) in
    let all = length-append (txn_in x.item) (txns_of xs) in
    omega (arith, less, front, all)

-- what stands under a number among items, where it is a transaction
pub record StandsAt (items : List Placed) (n : ℕ) : Type 0 where
  pub was : Placed
  pub got : slice_get items n ≡ Some was
  pub old : Txn
  pub is : was.item ≡ item.Txn old

txn_is : (i : Item) → IsTxn i → (t : Txn) × (i ≡ item.Txn t)
txn_is (item.Txn t) h = (t, refl)
txn_is item.Gap h = absurd h
txn_is item.Block h = absurd h
txn_is (item.Auto a) h = absurd h
txn_is (item.Periodic p) h = absurd h
txn_is (item.Price p) h = absurd h
txn_is (item.Directive d) h = absurd h

nothing_there : (t : Txn) → t ∷ [] ≡ [] → ⊥
nothing_there t e = let count = ap length e in omega (arith, count)

-- the transaction that an item was found to be
pub found_txn : (i : Item) (t : Txn) → t ∷ [] ≡ txn_in i → i ≡ item.Txn t
found_txn (item.Txn u) t e = ap (λ (ts : List Txn). item.Txn (get_or ts 0 t)) (sym e)
found_txn item.Gap t e = absurd (nothing_there t e)
found_txn item.Block t e = absurd (nothing_there t e)
found_txn (item.Auto a) t e = absurd (nothing_there t e)
found_txn (item.Periodic p) t e = absurd (nothing_there t e)
found_txn (item.Price p) t e = absurd (nothing_there t e)
found_txn (item.Directive d) t e = absurd (nothing_there t e)

pub never_none : (i : Item) → IsTxn i → [] ≡ txn_in i → ⊥
never_none i h e = let it = txn_is i h in nothing_there it.0 (ap txn_in (sym it.1) ∙ sym e)

pub stands_at : (items : List Placed) (n : ℕ) → IsTxnAt items n → StandsAt items n
stands_at items n h = by (slice_get items n) refl h
  where
    by : (o : Option Placed) → slice_get items n ≡ o → IsSomeAnd o (λ placed. IsTxn placed.item) → StandsAt items n
    by None e k = absurd k
    by (Some placed) e k = let it = txn_is placed.item k in record { was = placed; got = e; old = it.0; is = it.1 }

pub inside_items : (items : List Placed) (n : ℕ) (was : Placed) → slice_get items n ≡ Some was → n < length items
inside_items [] n was got = absurd (none-some was got)
inside_items (x ∷ xs) zero was got = omega arith
inside_items (x ∷ xs) (suc n) was got = let less = inside_items xs n was got in omega (arith, less)

pub stood_there : (items : List Placed) (n : ℕ) (p : Placed) → n < length items → p ≡ get_or items n p → slice_get items n ≡ Some p
stood_there items n p lt is = slice_get-get_or items n p lt ∙ ap (λ (q : Placed). Some q) (sym is)

-- ---- room for the transactions that a text has more

abbrev pub vacants_of : List Txn → List Txn
vacants_of txns = map (λ t. vacant t.day) txns

pub behind_room : (items : List Placed) (g : Grown) (book : List Txn) → length book ≡ length (txns_of items) → book ++ vacants_of (txns_of g.items) ≡ room_for (items_behind items g) book
behind_room items g book size =
    ap (λ (ts : List Txn). book ++ vacants_of ts)
    (sym (ap (drop (length book)) (txns_behind items g) ∙ drop_at (txns_of items) (txns_of g.items) (length book) (sym size)))

pub same_room : (items : List Placed) (n : ℕ) (new : Placed) (book : List Txn) → IsTxnAt items n → IsTxn new.item → length book ≡ length (txns_of items) → book ++ [] ≡ room_for (set items n new) book
same_room items n new book there txn size =
    let at = stands_at items n there in
    let it = txn_is new.item txn in
    let changed = txns_changed new at.old it.0 it.1 items n at.was at.got at.is in
    let count = ap length changed ∙ length-set (txns_of items) (number_at items n) it.0 in
    ap (λ (ts : List Txn). book ++ vacants_of ts) (sym (drop_all (length book) (txns_of (set items n new)) (omega (arith, count, size))))

-- ---- transactions that hold places, one after another

pub nothing_held : (vs : List Txn) (i seen : Item) → i ≡ seen → txn_in seen ≡ [] → vs ≡ vs ++ vacants_of (txn_in i)
nothing_held vs i seen is none = sym (ap (λ (x : Item). vs ++ vacants_of (txn_in x)) is ∙ ap (λ (ts : List Txn). vs ++ vacants_of ts) none ∙ append-nil vs)

pub item_held : (r : Result Unit Memory) (vs now : List Txn) (i : Item) (t : Txn) → i ≡ item.Txn t → OnOk r (now ≡ vs ++ vacant t.day ∷ []) → OnOk r (now ≡ vs ++ vacants_of (txn_in i))
item_held r vs now i t is h = subst (λ (x : Item). OnOk r (now ≡ vs ++ vacants_of (txn_in x))) (sym is) h

pub more_held : (items : List Placed) (i : ℕ) (placed : Placed) (vs now : List Txn) → i < length items → placed ≡ get_or items i placed → vs ≡ vacants_of (txns_of (take i items)) → now ≡ vs ++ vacants_of (txn_in placed.item)
    → now ≡ vacants_of (txns_of (take (i + 1) items))
more_held items i placed vs now lt is held put =
    put ∙ ap (λ (ts : List Txn). ts ++ vacants_of (txn_in placed.item)) held
    ∙ sym (ap vacants_of (txns_more items i placed lt is) ∙ map-append (λ (t : Txn). vacant t.day) (txns_of (take i items)) (txn_in placed.item))
