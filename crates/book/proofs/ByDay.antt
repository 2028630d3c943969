-- Transactions in the order of their days.
use Rattle.std.proofs.Common.{Bor, ◌≡◌, ℕ, suc, ◌+◌, ◌==◌, ◌<◌, ◌≤◌, Bool, true, false, ◌&&◌, not, cond, ltb, leb, filter, List, [], ◌∷◌, length, get_or, inl, inr, refl, sym, ap, ◌∙◌, arith}
use Rattle.std.specs.List.{list_all}
use Rattle.std.specs.Fn.{Mut, Called, ComputesKey}
use Rattle.std.specs.List.Sorted.{IsNonDecreasingBy, IsSortedByKey, IsStableByKey}
use Rattle.std.specs.Ordering.{nat_cmp, is_lt}
use Rattle.std.proofs.lemmas.Bool.{false≢true, cases_lt}
use Rattle.std.proofs.lemmas.Fn.{always_returns_same}
use Rattle.std.proofs.lemmas.List.Sorted.{IsNonDecreasingBy-from_sort_by_key}
use Rattle.std.proofs.lemmas.Bool.Decides.{nat_tests}
use Rattle.book.specs.declared.transaction.Txn.{Txn}
use Rattle.book.specs.ByDay.{is_ordered, on_day, insert_by_day, by_day}

both : (a b : Bool) → (a && b) ≡ true → (a ≡ true) × (b ≡ true)
both true b h = (refl, h)
both false b h = absurd (false≢true h)

together : (a b : Bool) → a ≡ true → b ≡ true → (a && b) ≡ true
together a b h k = ap (λ x. x && b) h ∙ k

eq-yes : (a b : ℕ) → a ≡ b → (a == b) ≡ true
eq-yes a b h = grind (arith, nat_tests)

eq-above : (a b : ℕ) → b < a → (a == b) ≡ false
eq-above a b h = grind (arith, nat_tests)

le-yes : (a b : ℕ) → a ≤ b → leb a b ≡ true
le-yes a b h = grind (arith, nat_tests)

le-from : (a b : ℕ) → leb a b ≡ true → a ≤ b
le-from a b h = grind (arith, nat_tests)

gt-from : (a b : ℕ) → leb a b ≡ false → b < a
gt-from a b h = grind (arith, nat_tests)

lt-from : (a b : ℕ) → ltb a b ≡ true → a < b
lt-from a b h = grind (arith, nat_tests)

ge-from : (a b : ℕ) → ltb a b ≡ false → b ≤ a
ge-from a b h = grind (arith, nat_tests)

eq-below : (a b : ℕ) → a < b → (a == b) ≡ false
eq-below a b h = grind (arith, nat_tests)

eq-from : (a b : ℕ) → (a == b) ≡ true → a ≡ b
eq-from a b h = grind (arith, nat_tests)

-- each entry is of the day or of a later one
abbrev from : ℕ → List Txn → Bool
from day ts = list_all (λ (u : Txn). leb day u.day.0) ts

from_lower : (d e : ℕ) (ts : List Txn) → d ≤ e → from e ts ≡ true → from d ts ≡ true
from_lower d e [] le h = refl
from_lower d e (t ∷ ts) le h =
    let parts = both (leb e t.day.0) (from e ts) h in
    together (leb d t.day.0) (from d ts) (le-yes d t.day.0 (omega (arith, le, le-from e t.day.0 parts.0))) (from_lower d e ts le parts.1)

none-on : (d e : ℕ) (ts : List Txn) → d < e → from e ts ≡ true → on_day d ts ≡ []
none-on d e [] less h = refl
none-on d e (t ∷ ts) less h =
    let parts = both (leb e t.day.0) (from e ts) h in
    ap (λ (b : Bool). cond b (t ∷ on_day d ts) (on_day d ts)) (eq-above t.day.0 d (omega (arith, less, le-from e t.day.0 parts.0))) ∙ none-on d e ts less parts.1

-- ---- insertion

from_by : (d : ℕ) (t u : Txn) (us : List Txn) (b : Bool) → leb t.day.0 u.day.0 ≡ b → leb d t.day.0 ≡ true → from d (u ∷ us) ≡ true
    → (from d us ≡ true → from d (insert_by_day t us) ≡ true) → from d (insert_by_day t (u ∷ us)) ≡ true
from_by d t u us true e first h more = rw e (together (leb d t.day.0) (from d (u ∷ us)) first h)
from_by d t u us false e first h more =
    let parts = both (leb d u.day.0) (from d us) h in
    rw e (together (leb d u.day.0) (from d (insert_by_day t us)) parts.0 (more parts.1))

from_insert : (d : ℕ) (t : Txn) (us : List Txn) → leb d t.day.0 ≡ true → from d us ≡ true → from d (insert_by_day t us) ≡ true
from_insert d t [] first h = together (leb d t.day.0) true first refl
from_insert d t (u ∷ us) first h = from_by d t u us (leb t.day.0 u.day.0) refl first h (from_insert d t us first)

insert_by : (t u : Txn) (us : List Txn) (b : Bool) → leb t.day.0 u.day.0 ≡ b → is_ordered (u ∷ us) ≡ true
    → (is_ordered us ≡ true → is_ordered (insert_by_day t us) ≡ true) → is_ordered (insert_by_day t (u ∷ us)) ≡ true
insert_by t u us true e h more =
    let parts = both (from u.day.0 us) (is_ordered us) h in
    let below : from t.day.0 us ≡ true = from_lower t.day.0 u.day.0 us (le-from t.day.0 u.day.0 e) parts.0 in
    rw e (together (from t.day.0 (u ∷ us)) (is_ordered (u ∷ us)) (together (leb t.day.0 u.day.0) (from t.day.0 us) e below) h)
insert_by t u us false e h more =
    let parts = both (from u.day.0 us) (is_ordered us) h in
    let later : leb u.day.0 t.day.0 ≡ true = le-yes u.day.0 t.day.0 (omega (arith, gt-from t.day.0 u.day.0 e)) in
    rw e (together (from u.day.0 (insert_by_day t us)) (is_ordered (insert_by_day t us)) (from_insert u.day.0 t us later parts.0) (more parts.1))

insert_ordered : (t : Txn) (us : List Txn) → is_ordered us ≡ true → is_ordered (insert_by_day t us) ≡ true
insert_ordered t [] h = refl
insert_ordered t (u ∷ us) h = insert_by t u us (leb t.day.0 u.day.0) refl h (insert_ordered t us)

-- entries by day are ordered
pub by_day_ordered : (ts : List Txn) → is_ordered (by_day ts) ≡ true
by_day_ordered [] = refl
by_day_ordered (t ∷ ts) = insert_ordered t (by_day ts) (by_day_ordered ts)

insert_length_by : (t u : Txn) (us : List Txn) (b : Bool) → leb t.day.0 u.day.0 ≡ b → length (insert_by_day t us) ≡ length us + 1
    → length (insert_by_day t (u ∷ us)) ≡ length (u ∷ us) + 1
insert_length_by t u us true e h = rw e (omega arith)
insert_length_by t u us false e h = rw e (omega (arith, h))

insert_length : (t : Txn) (us : List Txn) → length (insert_by_day t us) ≡ length us + 1
insert_length t [] = omega arith
insert_length t (u ∷ us) = insert_length_by t u us (leb t.day.0 u.day.0) refl (insert_length t us)

pub by_day_length : (ts : List Txn) → length (by_day ts) ≡ length ts
by_day_length [] = refl
by_day_length (t ∷ ts) = omega (arith, insert_length t (by_day ts), by_day_length ts)

swapped : (d : ℕ) (t u : Txn) (rest : List Txn) (a b : Bool) → (t.day.0 == d) ≡ a → (u.day.0 == d) ≡ b → u.day.0 < t.day.0
    → cond b (u ∷ cond a (t ∷ rest) rest) (cond a (t ∷ rest) rest) ≡ cond a (t ∷ cond b (u ∷ rest) rest) (cond b (u ∷ rest) rest)
swapped d t u rest true true e f less = absurd (omega (arith, less, eq-from t.day.0 d e, eq-from u.day.0 d f))
swapped d t u rest true false e f less = refl
swapped d t u rest false true e f less = refl
swapped d t u rest false false e f less = refl

insert_day_by : (d : ℕ) (t u : Txn) (us : List Txn) (b : Bool) → leb t.day.0 u.day.0 ≡ b → on_day d (insert_by_day t us) ≡ on_day d (t ∷ us)
    → on_day d (insert_by_day t (u ∷ us)) ≡ on_day d (t ∷ u ∷ us)
insert_day_by d t u us true e h = rw e refl
insert_day_by d t u us false e h =
    rw (e, h) (swapped d t u (on_day d us) (t.day.0 == d) (u.day.0 == d) refl refl (gt-from t.day.0 u.day.0 e))

insert_day : (d : ℕ) (t : Txn) (us : List Txn) → on_day d (insert_by_day t us) ≡ on_day d (t ∷ us)
insert_day d t [] = refl
insert_day d t (u ∷ us) = insert_day_by d t u us (leb t.day.0 u.day.0) refl (insert_day d t us)

-- the entries of each day stay in their order
by_day_days : (d : ℕ) (ts : List Txn) → on_day d (by_day ts) ≡ on_day d ts
by_day_days d [] = refl
by_day_days d (t ∷ ts) = insert_day d t (by_day ts) ∙ ap (λ x. cond (t.day.0 == d) (t ∷ x) x) (by_day_days d ts)

-- ---- only one list is ordered and has these entries on each day

front : (d : ℕ) (x : Txn) (xs : List Txn) → x.day.0 ≡ d → on_day d (x ∷ xs) ≡ x ∷ on_day d xs
front d x xs e = rw (eq-yes x.day.0 d e) refl

tails_by : (d : ℕ) (x y : Txn) (xs ys : List Txn) (b : Bool) → x ≡ y → (x.day.0 == d) ≡ b → on_day d (x ∷ xs) ≡ on_day d (y ∷ ys) → on_day d xs ≡ on_day d ys
tails_by d x y xs ys true same e h =
    let f : (y.day.0 == d) ≡ true = ap (λ (z : Txn). z.day.0 == d) (sym same) ∙ e in
    let k = rw (e, f) at h in
    cc k
tails_by d x y xs ys false same e h =
    let f : (y.day.0 == d) ≡ false = ap (λ (z : Txn). z.day.0 == d) (sym same) ∙ e in
    rw (e, f) at h

no_end : (y : Txn) (ys : List Txn) → ((z : Txn) → on_day z.day.0 [] ≡ on_day z.day.0 (y ∷ ys)) → [] ≡ y ∷ ys
no_end y ys h = let k = h y ∙ front y.day.0 y ys refl in absurd (cc k)

no_later : (x y : Txn) (xs ys : List Txn) → y.day.0 < x.day.0 → is_ordered (x ∷ xs) ≡ true → on_day y.day.0 (x ∷ xs) ≡ on_day y.day.0 (y ∷ ys) → ⊥
no_later x y xs ys less ordered h =
    let parts = both (from x.day.0 xs) (is_ordered xs) ordered in
    let all : from x.day.0 (x ∷ xs) ≡ true = together (leb x.day.0 x.day.0) (from x.day.0 xs) (le-yes x.day.0 x.day.0 (omega arith)) parts.0 in
    let none = none-on y.day.0 x.day.0 (x ∷ xs) less all in
    let k = sym none ∙ h ∙ front y.day.0 y ys refl in
    cc k

same_first : (x y : Txn) (xs ys : List Txn) → x.day.0 ≡ y.day.0 → on_day x.day.0 (x ∷ xs) ≡ on_day x.day.0 (y ∷ ys) → x ≡ y
same_first x y xs ys e h =
    let k = sym (front x.day.0 x xs refl) ∙ h ∙ front x.day.0 y ys (sym e) in
    cc k

pub unique : (xs ys : List Txn) → is_ordered xs ≡ true → is_ordered ys ≡ true → ((z : Txn) → on_day z.day.0 xs ≡ on_day z.day.0 ys) → xs ≡ ys
unique [] [] p q h = refl
unique [] (y ∷ ys) p q h = no_end y ys h
unique (x ∷ xs) [] p q h = sym (no_end x xs (λ z. sym (h z)))
unique (x ∷ xs) (y ∷ ys) p q h =
    elim (cases_lt y.day.0 x.day.0) [
      | inl less ↦ absurd (no_later x y xs ys less p (h y))
      | inr le ↦ elim (cases_lt x.day.0 y.day.0) [
        | inl less ↦ absurd (no_later y x ys xs less q (sym (h x)))
        | inr ge ↦
            let same : x ≡ y = same_first x y xs ys (omega (arith, le, ge)) (h x) in
            let rest = unique xs ys (both (from x.day.0 xs) (is_ordered xs) p).1 (both (from y.day.0 ys) (is_ordered ys) q).1
            (λ z. tails_by z.day.0 x y xs ys (x.day.0 == z.day.0) same refl (h z)) in
            ap (λ z. z ∷ xs) same ∙ ap (λ zs. y ∷ zs) rest
      ]
    ]

-- ---- what a stable sort by the day gives

all_from : (d : ℕ) (ys : List Txn) → ((j : ℕ) (e : Txn) → j < length ys → d ≤ (get_or ys j e).day.0) → from d ys ≡ true
all_from d [] h = refl
all_from d (y ∷ ys) h =
    together (leb d y.day.0) (from d ys) (le-yes d y.day.0 (h 0 y (omega arith)))
    (all_from d ys (λ j e lt. h (suc j) e (omega (arith, lt))))

ordered_from : (ys : List Txn) → IsNonDecreasingBy (λ (t : Txn). t.day.0) ys → is_ordered ys ≡ true
ordered_from [] h = refl
ordered_from (y ∷ ys) h =
    together (from y.day.0 ys) (is_ordered ys)
    (all_from y.day.0 ys (λ j e lt. h 0 (suc j) e (omega arith) (omega (arith, lt))))
    (ordered_from ys (λ i j d le lt. h (suc i) (suc j) d (omega (arith, le)) (omega (arith, lt))))

tie_by : (a b : ℕ) (s t : Bool) → ltb a b ≡ s → ltb b a ≡ t → (not (is_lt (nat_cmp a b)) && not (is_lt (nat_cmp b a))) ≡ (b == a)
tie_by a b true true e f = absurd (omega (arith, lt-from a b e, lt-from b a f))
tie_by a b true false e f = rw (e, eq-above b a (lt-from a b e)) refl
tie_by a b false true e f = rw (e, f, eq-below b a (lt-from b a f), eq-above a b (lt-from b a f)) refl
tie_by a b false false e f =
    let k : a ≡ b = omega (arith, ge-from a b e, ge-from b a f) in
    rw (e, f, eq-yes a b k, eq-yes b a (sym k)) refl

tie_of : (a b : ℕ) → (not (is_lt (nat_cmp a b)) && not (is_lt (nat_cmp b a))) ≡ (b == a)
tie_of a b = tie_by a b (ltb a b) (ltb b a) refl refl

tie : (x y : Txn) → (not (is_lt (nat_cmp x.day.0 y.day.0)) && not (is_lt (nat_cmp y.day.0 x.day.0))) ≡ (y.day.0 == x.day.0)
tie x y = tie_of x.day.0 y.day.0

filter_same : (p q : Txn → Bool) (xs : List Txn) → ((y : Txn) → p y ≡ q y) → filter p xs ≡ filter q xs
filter_same p q [] h = refl
filter_same p q (x ∷ xs) h = ap (λ b. cond b (x ∷ filter p xs) (filter p xs)) (h x) ∙ ap (λ r. cond (q x) (x ∷ r) r) (filter_same p q xs h)

days_stay : (xs ys : List Txn) → IsStableByKey (λ (t : Txn). t.day.0) nat_cmp xs ys → (z : Txn) → on_day z.day.0 ys ≡ on_day z.day.0 xs
days_stay xs ys stable z =
    let p : Txn → Bool = λ y. not (is_lt (nat_cmp z.day.0 y.day.0)) && not (is_lt (nat_cmp y.day.0 z.day.0)) in
    let q : Txn → Bool = λ y. y.day.0 == z.day.0 in
    sym (filter_same p q ys (λ y. tie z y)) ∙ stable z ∙ filter_same p q xs (λ y. tie z y)

-- a stable sort by the day is that of the definition
pub sorted_is : (xs ys : List Txn) → IsNonDecreasingBy (λ (t : Txn). t.day.0) ys → IsStableByKey (λ (t : Txn). t.day.0) nat_cmp xs ys → ys ≡ by_day xs
sorted_is xs ys rises stable =
    unique ys (by_day xs) (ordered_from ys rises) (by_day_ordered xs) (λ z. days_stay xs ys stable z ∙ sym (by_day_days z.day.0 xs))

-- the same by the clauses of the sort
pub sorted_by_key : {F : Type 0} {g : Mut F (Bor Txn × Unit {0}) ℕ} {f : F} (xs ys : List Txn)
    → ((key : Txn → ℕ) → ComputesKey g key f → IsSortedByKey key nat_cmp ys) → ((key : Txn → ℕ) → ComputesKey g key f → IsStableByKey key nat_cmp xs ys)
    → ((a : Bor Txn × Unit {0}) (r : ℕ) (f' : F) → Called g f a r f' → (r ≡ a.0.now.day.0) × (f' ≡ f)) → ys ≡ by_day xs
sorted_by_key {g = g} {f = f} xs ys up stable h =
    sorted_is xs ys (IsNonDecreasingBy-from_sort_by_key (λ (t : Txn). t.day.0) ys up h)
    (stable (λ (t : Txn). t.day.0) (always_returns_same g (λ a r. r ≡ a.0.now.day.0) f h))
