-- Where edited transactions stand.
use Rattle.std.proofs.Common.{Bor, ◌≡◌, ℕ, suc, ◌+◌, ◌<◌, ◌≤◌, ◌==◌, nat_lt, Bool, true, false, ◌&&◌, ◌||◌, cond, inl, inr, List, [], ◌∷◌, ◌++◌, get_or, length, slice_get, sum_by, take, Some, refl, sym, ap, subst, ◌∙◌, arith}
use Rattle.std.specs.Fn.{Called, ComputesKey, Mut}
use Rattle.std.specs.List.{AllByRecursion, list_all, list_any}
use Rattle.std.specs.List.Sorted.{IsPermutation, IsSortedByKey}
use Rattle.std.specs.Ordering.{is_lt, nat_cmp, ordering_then}
use Rattle.std.specs.declared.cmp.Ordering.{Ordering}
use Rattle.std.specs.declared.cmp.Ordering.TheVariants.{Less, Equal, Greater}
use Rattle.std.proofs.lemmas.Bool.{cases_Bool, eq-eqb, eqb-true, false≢true}
use Rattle.std.proofs.lemmas.Fn.{always_returns_same}
use Rattle.std.proofs.lemmas.List.Sorted.{length_permutation, list_any-IsPermutation, sum_by-IsPermutation}
use Rattle.std.proofs.lemmas.List.Sums.{sum_by-cons}
use Rattle.std.proofs.lemmas.Option.{same_Some}
use Rattle.book.specs.declared.transaction.Txn.{Txn}
use Rattle.reached_walk.proofs.Entries.{got-inside}
use Rattle.reached_walk.proofs.Lists.{pick}
use Rattle.reached_walk.proofs.Orders.{apart, is-same, same-is, through}
use Rattle.reached_walk.specs.Spots.{AreOnce, Rise, holds, is_before, is_same}
use Rattle.reached_walk.specs.declared.place.Spot.{Spot}
use Rattle.watchers.proofs.Tests.{and-both, and-first, and-second, or-first, or-left, or-right, or-second}
use Rattle.walked_edits.specs.Scenes.{Scene, StandsIn}
use Rattle.kept_books.specs.Renewing.{IsSorted, spots_from}
use Rattle.kept_books.proofs.Renewing.{lent_front, lent_next, lent_of, lent_whole}

-- ---- as they are noted

spots_push : (n : ℕ) (ts : List Txn) (t : Txn) (m : ℕ) → m ≡ n + length ts → spots_from n (ts ++ t ∷ []) ≡ spots_from n ts ++ record { day = t.day; number = m } ∷ []
spots_push n [] t m is = let same : n ≡ m = omega (arith, is) in ap (λ (k : ℕ). record { day = t.day; number = k } ∷ []) same
spots_push n (u ∷ ts) t m is = ap (λ (ps : List Spot). record { day = u.day; number = n } ∷ ps) (spots_push (suc n) ts t m (omega (arith, is)))

pub spots_step : (first : ℕ) (forms : List (Bor Txn)) (i number : ℕ) (t : Bor Txn) (old new : List Spot) → i < length forms → t ≡ get_or forms i t → number ≡ first + i → old ≡ spots_from first (take i (lent_of forms)) → new ≡ old ++ record { day = t.now.day; number = number } ∷ []
    → new ≡ spots_from first (take (i + 1) (lent_of forms))
spots_step first forms i number t old new lt read is were put =
    put
    ∙ ap (λ (ps : List Spot). ps ++ record { day = t.now.day; number = number } ∷ []) were
    ∙ sym (spots_push first (take i (lent_of forms)) t.now number (let size = lent_front forms i lt in omega (arith, is, size)))
    ∙ ap (spots_from first) (sym (lent_next forms i t lt read))

pub spots_all : (first : ℕ) (forms : List (Bor Txn)) (i : ℕ) (spots : List Spot) → length forms ≤ i → spots ≡ spots_from first (take i (lent_of forms)) → spots ≡ spots_from first (lent_of forms)
spots_all first forms i spots le is = is ∙ ap (spots_from first) (lent_whole forms i le)

-- ---- which numbers they have

pub spots_size : (n : ℕ) (ts : List Txn) → length (spots_from n ts) ≡ length ts
spots_size n [] = refl
spots_size n (t ∷ ts) = ap suc (spots_size (suc n) ts)

pub holds_in : (n : ℕ) (ts : List Txn) (m : ℕ) → holds (spots_from n ts) m ≡ true → (n ≤ m) × (m < n + length ts)
holds_in n [] m h = absurd (false≢true h)
holds_in n (t ∷ ts) m h =
    elim (cases_Bool (n == m)) as (λ _. (n ≤ m) × (m < n + length (t ∷ ts))) [
      | inl same ↦ let is : n ≡ m = eqb-true n m same in (omega (arith, is), omega (arith, is))
      | inr other ↦
          let rest = holds_in (suc n) ts m (or_rest (n == m) (holds (spots_from (suc n) ts) m) other h) in
          let low = rest.0 in
          let high = rest.1 in
          (omega (arith, low), omega (arith, high))
    ]
  where
    or_rest : (a b : Bool) → a ≡ false → (a || b) ≡ true → b ≡ true
    or_rest true b e h = absurd (false≢true (sym e))
    or_rest false b e h = h

pub holds_from : (n : ℕ) (ts : List Txn) (m : ℕ) → n ≤ m → m < n + length ts → holds (spots_from n ts) m ≡ true
holds_from n [] m low high = absurd (omega (arith, low, high))
holds_from n (t ∷ ts) m low high =
    elim (cases_Bool (n == m)) as (λ _. holds (spots_from n (t ∷ ts)) m ≡ true) [
      | inl same ↦ or-left (n == m) (holds (spots_from (suc n) ts) m) same
      | inr other ↦
          let differ : suc n ≤ m = above n m low (λ is. false≢true (sym other ∙ eq-eqb n m is)) in
          or-right (n == m) (holds (spots_from (suc n) ts) m) (holds_from (suc n) ts m differ (omega (arith, high)))
    ]
  where
    above : (a b : ℕ) → a ≤ b → (a ≡ b → ⊥) → suc a ≤ b
    above a b le other = omega arith

once_from : (n : ℕ) (ts : List Txn) → AreOnce (spots_from n ts)
once_from n [] = tt
once_from n (t ∷ ts) = (
  elim (cases_Bool (holds (spots_from (suc n) ts) n)) as (λ _. holds (spots_from (suc n) ts) n ≡ false) [
    | inl on ↦ let low = (holds_in (suc n) ts n on).0 in absurd (omega (arith, low))
    | inr off ↦ off
  ],
  once_from (suc n) ts,
)

-- ---- no number twice, in whatever order

abbrev count : ℕ → Spot → ℕ
count n s = cond (s.number == n) 1 0

none_counted : (n : ℕ) (ps : List Spot) → holds ps n ≡ false → sum_by (count n) ps ≡ 0
none_counted n [] h = refl
none_counted n (p ∷ ps) h =
    let rest = none_counted n ps (or-second (p.number == n) (holds ps n) h) in
    let here : count n p ≡ 0 = ap (λ (b : Bool). cond b 1 0) (or-first (p.number == n) (holds ps n) h) in
    omega (arith, sum_by-cons (count n) p ps, rest, here)

counted_none : (n : ℕ) (ps : List Spot) → sum_by (count n) ps ≡ 0 → holds ps n ≡ false
counted_none n [] h = refl
counted_none n (p ∷ ps) h =
    elim (cases_Bool (p.number == n)) as (λ _. holds (p ∷ ps) n ≡ false) [
      | inl on ↦
          let one : count n p ≡ 1 = ap (λ (b : Bool). cond b 1 0) on in
          absurd (omega (arith, sum_by-cons (count n) p ps, h, one))
      | inr off ↦
          let none : count n p ≡ 0 = ap (λ (b : Bool). cond b 1 0) off in
          ap (λ (b : Bool). b || holds ps n) off ∙ counted_none n ps (omega (arith, sum_by-cons (count n) p ps, h, none))
    ]

once_counted : (n : ℕ) (ps : List Spot) → AreOnce ps → sum_by (count n) ps ≤ 1
once_counted n [] h = omega arith
once_counted n (p ∷ ps) h =
    elim (cases_Bool (p.number == n)) as (λ _. sum_by (count n) (p ∷ ps) ≤ 1) [
      | inl on ↦
          let one : count n p ≡ 1 = ap (λ (b : Bool). cond b 1 0) on in
          let same : p.number ≡ n = eqb-true p.number n on in
          let none = none_counted n ps (ap (holds ps) (sym same) ∙ h.0) in
          omega (arith, sum_by-cons (count n) p ps, one, none)
      | inr off ↦
          let none : count n p ≡ 0 = ap (λ (b : Bool). cond b 1 0) off in
          let rest = once_counted n ps h.1 in
          omega (arith, sum_by-cons (count n) p ps, none, rest)
    ]

counted_once : (ps : List Spot) → ((n : ℕ) → sum_by (count n) ps ≤ 1) → AreOnce ps
counted_once [] h = tt
counted_once (p ∷ ps) h = (
  counted_none p.number ps (let most = h p.number in let one : count p.number p ≡ 1 = ap (λ (b : Bool). cond b 1 0) (eq-eqb p.number p.number refl) in omega (arith, sum_by-cons (count p.number) p ps, most, one)),
  counted_once ps (λ n. let most = h n in omega (arith, sum_by-cons (count n) p ps, most)),
)

pub once_moved : (ps qs : List Spot) → IsPermutation ps qs → AreOnce ps → AreOnce qs
once_moved ps qs same once = counted_once qs (λ n. let most = once_counted n ps once in omega (arith, sum_by-IsPermutation (count n) ps qs same, most))

pub once_spots : (n : ℕ) (ts : List Txn) (spots : List Spot) → IsPermutation (spots_from n ts) spots → AreOnce spots
once_spots n ts spots same = once_moved (spots_from n ts) spots same (once_from n ts)

pub holds_spots : (n : ℕ) (ts : List Txn) (spots : List Spot) (m : ℕ) → IsPermutation (spots_from n ts) spots → holds spots m ≡ holds (spots_from n ts) m
holds_spots n ts spots m same = sym (list_any-IsPermutation (λ (s : Spot). s.number == m) (spots_from n ts) spots same)

pub some_spots : (n : ℕ) (ts : List Txn) (spots : List Spot) → IsPermutation (spots_from n ts) spots → length spots ≡ length ts
some_spots n ts spots same = length_permutation (spots_from n ts) spots same ∙ spots_size n ts

-- ---- in their order

before_is : (a b m n : ℕ) → is_lt (ordering_then (nat_cmp a b) (nat_cmp m n)) ≡ (nat_lt a b || ((a == b) && nat_lt m n))
before_is a b m n = by (nat_lt a b) (a == b) (nat_lt m n) (m == n)
  where
    by : (less same under alike : Bool) → is_lt (ordering_then (cond less Less (cond same Equal Greater)) (cond under Less (cond alike Equal Greater))) ≡ (less || (same && under))
    by true same under alike = refl
    by false false under alike = refl
    by false true true alike = refl
    by false true false true = refl
    by false true false false = refl

abbrev pub key_of : Spot → ℕ × ℕ
key_of s = (s.day.0, s.number)

abbrev pub key_cmp : ℕ × ℕ → ℕ × ℕ → Ordering
key_cmp x y = ordering_then (nat_cmp x.0 y.0) (nat_cmp x.1 y.1)

pub sorted_is : (spots : List Spot) → IsSortedByKey key_of key_cmp spots → IsSorted spots
sorted_is spots up = λ k d lt.
    let one = get_or spots (k + 1) d in
    let two = get_or spots k d in
    sym (before_is one.day.0 two.day.0 one.number two.number) ∙ up k d (omega arith) lt

pub sorted_by : {F : Type 0} {g : Mut F (Bor Spot × Unit {0}) (ℕ × ℕ)} {f : F} (spots : List Spot) → ((key : Spot → ℕ × ℕ) → ComputesKey g key f → IsSortedByKey key key_cmp spots)
    → ((a : Bor Spot × Unit {0}) (r : ℕ × ℕ) (f' : F) → Called g f a r f' → (r ≡ key_of a.0.now) × (f' ≡ f)) → IsSorted spots
sorted_by {g = g} {f = f} spots up h = sorted_is spots (up key_of (always_returns_same g (λ a r. r ≡ key_of a.0.now) f h))

other_number : (ps : List Spot) (n : ℕ) (p : Spot) → holds (p ∷ ps) n ≡ false → (p.number ≡ n → ⊥)
other_number ps n p off is = false≢true (sym (or-first (p.number == n) (holds ps n) off) ∙ eq-eqb p.number n is)

all_after : (s t : Spot) (ps : List Spot) → is_before s t ≡ true → list_all (is_before t) ps ≡ true → list_all (is_before s) ps ≡ true
all_after s t [] h all = refl
all_after s t (p ∷ ps) h all =
    and-both (is_before s p) (list_all (is_before s) ps)
    (through s t p h (and-first (is_before t p) (list_all (is_before t) ps) all))
    (all_after s t ps h (and-second (is_before t p) (list_all (is_before t) ps) all))

pub rise_sorted : (spots : List Spot) → IsSorted spots → AreOnce spots → Rise spots
rise_sorted [] up once = tt
rise_sorted (s ∷ []) up once = (refl, tt)
rise_sorted (s ∷ t ∷ spots) up once =
    let tail : IsSorted (t ∷ spots) = λ k d lt.
    let next : suc k + 1 ≡ suc (k + 1) = omega arith in
    subst (λ (n : ℕ). is_before (get_or (s ∷ t ∷ spots) n d) (get_or (t ∷ spots) k d) ≡ false) next (up (suc k) d (omega (arith, lt))) in
    let rest = rise_sorted (t ∷ spots) tail once.1 in
    let here : is_before s t ≡ true = apart s t (up 0 s (omega arith)) (λ same. other_number spots s.number t once.0 (ap (λ (p : Spot). p.number) (sym same))) in (
      and-both (is_before s t) (list_all (is_before s) spots) here (all_after s t spots here rest.0),
      rest,
    )

-- ---- each in the new text

stands_from : (s : Scene) (n : ℕ) (ts : List Txn) → ((k : ℕ) (t : Txn) → slice_get ts k ≡ Some t → slice_get s.written (n + k) ≡ Some t) → AllByRecursion (StandsIn s) (spots_from n ts)
stands_from s n [] got = tt
stands_from s n (t ∷ ts) got =
    let zero_more : n + 0 ≡ n = omega arith in
    let there : slice_get s.written n ≡ Some t = subst (λ (m : ℕ). slice_get s.written m ≡ Some t) zero_more (got 0 t refl) in (
      record { inside = got-inside s.written n t there; day = λ txn is. ap (λ (u : Txn). u.day) (same_Some txn t (sym is ∙ there)) },
      stands_from s (suc n) ts (λ k u is. let next : n + suc k ≡ suc n + k = omega arith in subst (λ (m : ℕ). slice_get s.written m ≡ Some u) next (got (suc k) u is)),
    )

-- each of a list is so, where that is so of whatever is the same as one of them
each_among : (P : Spot → Type 0) (ps : List Spot) → ((p : Spot) → list_any (is_same p) ps ≡ true → P p) → AllByRecursion P ps
each_among P [] h = tt
each_among P (p ∷ ps) h = (
  h p (or-left (is_same p p) (list_any (is_same p) ps) (is-same p p refl refl)),
  each_among P ps (λ q in_rest. h q (or-right (is_same q p) (list_any (is_same q) ps) in_rest)),
)

each_moved : (P : Spot → Type 0) (ps qs : List Spot) → IsPermutation ps qs → AllByRecursion P ps → AllByRecursion P qs
each_moved P ps qs same all =
    each_among P qs (λ q found.
    pick P (is_same q) (P q) (λ p h is. subst P (sym (same-is q p is)) h) ps all (list_any-IsPermutation (is_same q) ps qs same ∙ found))

pub stand_spots : (s : Scene) (n : ℕ) (ts : List Txn) (spots : List Spot) → IsPermutation (spots_from n ts) spots → ((k : ℕ) (t : Txn) → slice_get ts k ≡ Some t → slice_get s.written (n + k) ≡ Some t) → AllByRecursion (StandsIn s) spots
stand_spots s n ts spots same got = each_moved (StandsIn s) (spots_from n ts) spots same (stands_from s n ts got)
