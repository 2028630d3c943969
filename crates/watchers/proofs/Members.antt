-- What is among watches: after some are put in or taken out, and in the transactions that stand under numbers.
use Rattle.std.proofs.Common.{◌≡◌, ℕ, zero, suc, ◌+◌, ◌<◌, ◌==◌, Bool, true, false, ◌&&◌, ◌||◌, cond, not, List, [], ◌∷◌, ◌++◌, filter, length, Option, Some, None, is_some, refl, sym, ap, subst, ◌∙◌, arith}
use Rattle.std.specs.declared.cmp.Ordering.{Ordering}
use Rattle.std.specs.declared.cmp.Ordering.TheVariants.{Less, Equal, Greater}
use Rattle.std.specs.Ordering.{is_eq, is_lt, eq_by_cmp, match_ordering}
use Rattle.std.specs.List.{list_any, flat_map}
use Rattle.std.specs.BTreeSet.{replace_key}
use Rattle.std.proofs.lemmas.Bool.{false≢true}
use Rattle.std.proofs.lemmas.Bool.Decides.{nat_tests}
use Rattle.std.proofs.lemmas.Cmp.{alike_right, tied_itself}
use Rattle.std.proofs.lemmas.Grind.{flat_map-append}
use Rattle.std.proofs.lemmas.List.Folds.{list_any-append}
use Rattle.shared_set.specs.Sorted.{without_key}
use Rattle.book.specs.declared.amount.Assertion.{Assertion}
use Rattle.book.specs.declared.transaction.Posting.{Posting}
use Rattle.book.specs.declared.transaction.Txn.{Txn}
use Rattle.book.specs.Standing.{Numbered, all_greater, with_number, without_number}
use Rattle.book.specs.SumsBefore.{is_assigned, number_in, placed_in, placed_from}
use Rattle.watchers.specs.declared.watch.Place.{Place}
use Rattle.watchers.specs.declared.watch.Watch.{Watch}
use Rattle.watchers.specs.Order.{place_cmp, watch_cmp}
use Rattle.watchers.specs.Totals.{watch_total}
use Rattle.watchers.specs.Reach.{is_at, is_before, is_reached, reached, reaches, IsFirst, IsNextOf}
use Rattle.watchers.specs.Walk.{day_in, gone_all, put_all, watches_from, watches_posting}
use Rattle.watchers.specs.Watches.{AreOf, Stands, is_among, numbered_from, placed_at, watch_at, watch_if, watches_in, watches_of}
use Rattle.watchers.proofs.Above.{reach-same}
use Rattle.watchers.proofs.Firsts.{first-same}
use Rattle.watchers.proofs.Orders.{before-is, is-equal, watch_same}
use Rattle.watchers.proofs.Tests.{and-both, and-first, and-second, any-filter, any-imp, filter-none, none-imp, not-true, or-left, or-none, or-right, same-bool}

abbrev same : Watch → Watch → Bool
same q w = eq_by_cmp watch_cmp q w

-- ---- what is among watches passes their tests

found : (t : Watch → Bool) (x : Watch) (ys : List Watch) → is_among x ys ≡ true → t x ≡ true → list_any t ys ≡ true
found t x [] h k = h
found t x (y ∷ ys) h k =
    elim (same x y) as (λ b. same x y ≡ b → (b || is_among x ys) ≡ true → (t y || list_any t ys) ≡ true) [
      | true ↦ λ e m. or-left (t y) (list_any t ys) (subst (λ (w : Watch). t w ≡ true) (watch_same x y (is-equal (watch_cmp x y) e)) k)
      | false ↦ λ e m. or-right (t y) (list_any t ys) (found t x ys m k)
    ] refl h

itself : (x : Watch) → same x x ≡ true
itself x = ap is_eq (tied_itself watch_total x)

any-found : (t : Watch → Bool) (xs ys : List Watch) → ((w : Watch) → is_among w xs ≡ true → is_among w ys ≡ true) → list_any t xs ≡ true → list_any t ys ≡ true
any-found t [] ys f h = absurd (false≢true h)
any-found t (x ∷ xs) ys f h =
    elim (t x) as (λ b. t x ≡ b → (b || list_any t xs) ≡ true → list_any t ys ≡ true) [
      | true ↦ λ e m. found t x ys (f x (or-left (same x x) (is_among x xs) (itself x))) e
      | false ↦ λ e m. any-found t xs ys (λ w n. f w (or-right (same w x) (is_among w xs) n)) m
    ] refl h

pub any-same : (t : Watch → Bool) (xs ys : List Watch) → ((w : Watch) → is_among w xs ≡ is_among w ys) → list_any t xs ≡ list_any t ys
any-same t xs ys f = same-bool (list_any t xs) (list_any t ys) (any-found t xs ys (λ w h. sym (f w) ∙ h)) (any-found t ys xs (λ w h. f w ∙ h))

first-among : (t : Watch → Bool) (xs ys : List Watch) (r : Option Place) → ((w : Watch) → is_among w xs ≡ is_among w ys) → IsFirst t xs r → IsFirst t ys r
first-among t xs ys None f h = sym (any-same t xs ys f) ∙ h
first-among t xs ys (Some place) f h = (sym (any-same _ xs ys f) ∙ h.0, sym (any-same _ xs ys f) ∙ h.1)

next-of : (t : Watch → Bool) (ws : List Watch) (r : Option Place) → IsFirst t ws r → IsNextOf (filter t ws) r
next-of t ws None h = filter-none t ws h
next-of t ws (Some place) h = (
  any-filter t (λ w. is_at place w.place) ws ∙ h.0,
  any-filter t (λ w. is_before w.place place) ws
      ∙ none-imp (λ w. t w && is_before w.place place) (λ w. t w && is_lt (place_cmp w.place place)) (λ w m. and-both (t w) (is_lt (place_cmp w.place place)) (and-first (t w) _ m) (before-is w.place place ∙ and-second (t w) _ m)) ws h.1,
)

-- the first place in what is kept is the next one in the book
pub next-in : (standing : Numbered Txn) (ws : List Watch) (account : List ℕ) (after : Place) (r : Option Place) → AreOf standing ws → IsFirst (reaches account after) ws r → IsNextOf (reached standing account after) r
next-in standing ws account after r are h =
    next-of (is_reached account after) (watches_of standing) r
    (first-among (is_reached account after) ws (watches_of standing) r are.same
    (first-same (reaches account after) (is_reached account after) ws r (λ w. reach-same account after w) h))

-- ---- put in and taken out

absorb : (a b : Bool) → (a || b) ≡ (a || (a || b))
absorb true b = refl
absorb false b = refl

swap : (a b c : Bool) → (a || (b || c)) ≡ (b || (a || c))
swap true true c = refl
swap true false c = refl
swap false b c = refl

among-put : (q k : Watch) (ws : List Watch) → is_among q (replace_key watch_cmp ws k) ≡ (same q k || is_among q ws)
among-put q k [] = refl
among-put q k (x ∷ ws) =
    let rest = among-put q k ws in
    elim (watch_cmp k x) as (λ r. watch_cmp k x ≡ r → is_among q (match_ordering r (k ∷ x ∷ ws) (k ∷ ws) (x ∷ replace_key watch_cmp ws k)) ≡ (same q k || (same q x || is_among q ws))) [
      | Less ↦ λ e. refl
      | Equal ↦ λ e. absorb (same q k) (is_among q ws) ∙ ap (λ (b : Bool). same q k || (b || is_among q ws)) (ap is_eq (alike_right watch_total k x q e))
      | Greater ↦ λ e. ap (λ (b : Bool). same q x || b) rest ∙ swap (same q x) (same q k) (is_among q ws)
    ] refl

shift : (m e w : Bool) → (m || (e || w)) ≡ ((e || m) || w)
shift true true w = refl
shift true false w = refl
shift false e w = or-empty e w
  where
    or-empty : (e w : Bool) → (e || w) ≡ ((e || false) || w)
    or-empty true w = refl
    or-empty false w = refl

pub among-put-all : (q : Watch) (ws more : List Watch) → is_among q (put_all ws more) ≡ (is_among q more || is_among q ws)
among-put-all q ws [] = refl
among-put-all q ws (w ∷ more) =
    among-put-all q (replace_key watch_cmp ws w) more
    ∙ ap (λ (b : Bool). is_among q more || b) (among-put q w ws)
    ∙ shift (is_among q more) (same q w) (is_among q ws)

lost : (a w : Bool) → (not a && w) ≡ (not a && (a || w))
lost true w = refl
lost false w = refl

nothing : (a : Bool) → (not a && false) ≡ false
nothing true = refl
nothing false = refl

among-gone : (q k : Watch) (ws : List Watch) → is_among q (without_key watch_cmp k ws) ≡ (not (same q k) && is_among q ws)
among-gone q k [] = sym (nothing (same q k))
among-gone q k (x ∷ ws) =
    let rest = among-gone q k ws in
    elim (same k x) as (λ b. same k x ≡ b → is_among q (cond (not b) (x ∷ without_key watch_cmp k ws) (without_key watch_cmp k ws)) ≡ (not (same q k) && (same q x || is_among q ws))) [
      | true ↦ λ e.
          rest ∙ lost (same q k) (is_among q ws)
          ∙ ap (λ (b : Bool). not (same q k) && (b || is_among q ws)) (ap is_eq (alike_right watch_total k x q (is-equal (watch_cmp k x) e)))
      | false ↦ λ e. ap (λ (b : Bool). same q x || b) rest ∙ stays (same q k) (same q x) (is_among q ws) (apart e)
    ] refl
  where
    apart : same k x ≡ false → same q k ≡ true → same q x ≡ false
    apart e h = ap is_eq (watch_total.congr q k x (is-equal (watch_cmp q k) h)) ∙ e

    stays : (a b w : Bool) → (a ≡ true → b ≡ false) → (b || (not a && w)) ≡ (not a && (b || w))
    stays true b w f = ap (λ (c : Bool). c || false) (f refl)
    stays false b w f = refl

gather : (m e w : Bool) → (not m && (not e && w)) ≡ (not (e || m) && w)
gather true true w = refl
gather true false w = refl
gather false true w = refl
gather false false w = refl

pub among-gone-all : (q : Watch) (ws more : List Watch) → is_among q (gone_all ws more) ≡ (not (is_among q more) && is_among q ws)
among-gone-all q ws [] = refl
among-gone-all q ws (w ∷ more) =
    among-gone-all q (without_key watch_cmp w ws) more
    ∙ ap (λ (b : Bool). not (is_among q more) && b) (among-gone q w ws)
    ∙ gather (is_among q more) (same q w) (is_among q ws)

-- ---- the watches of a transaction

number-wanted : (t : Txn) (n : ℕ) (p : Posting) (w : Assertion) → p.wanted ≡ Some w → number_in t n p ≡ n
number-wanted t n p w e =
    ap (λ (o : Option Assertion). cond ((list_any is_assigned t.postings && p.filled) && not (is_some o)) (length t.postings + n) n) e
    ∙ never (list_any is_assigned t.postings && p.filled) (length t.postings + n) n
  where
    never : (b : Bool) (a c : ℕ) → cond (b && false) a c ≡ c
    never true a c = refl
    never false a c = refl

posting-is : (t : Txn) (number n : ℕ) (p : Posting) (o : Option Assertion) → p.wanted ≡ o → watch_if (record { day = day_in t p; txn = number; posting = n }) p o ≡ watch_if (record { day = day_in t p; txn = number; posting = number_in t n p }) p o
posting-is t number n p None e = refl
posting-is t number n p (Some w) e =
    ap (λ (m : ℕ). watch_if (record { day = day_in t p; txn = number; posting = m }) p (Some w)) (sym (number-wanted t n p w e))

pub from-is : (t : Txn) (number n : ℕ) (ps : List Posting) → watches_from t number n ps ≡ flat_map watch_at (placed_in t number n ps)
from-is t number n [] = refl
from-is t number n (p ∷ ps) = λ i. posting-is t number n p p.wanted refl i ++ from-is t number (suc n) ps i

abbrev is_of_txn : ℕ → Watch → Bool
is_of_txn n w = w.place.txn == n

abbrev is_of_other : ℕ → Watch → Bool
is_of_other n w = not (w.place.txn == n)

eq-self : (n : ℕ) → (n == n) ≡ true
eq-self n = grind (arith, nat_tests)

none-other : (t : Txn) (number n : ℕ) (ps : List Posting) → list_any (is_of_other number) (watches_from t number n ps) ≡ false
none-other t number n [] = refl
none-other t number n (p ∷ ps) =
    list_any-append (is_of_other number) (watches_posting t number n p) (watches_from t number (suc n) ps)
    ∙ or-none _ _ (here p.wanted) (none-other t number (suc n) ps)
  where
    here : (o : Option Assertion) → list_any (is_of_other number) (watch_if (record { day = day_in t p; txn = number; posting = n }) p o) ≡ false
    here None = refl
    here (Some w) = or-none (not (number == number)) false (ap not (eq-self number)) refl

-- none of another number
none-of : (n number : ℕ) (t : Txn) (k : ℕ) (ps : List Posting) → (number == n) ≡ false → list_any (is_of_txn n) (watches_from t number k ps) ≡ false
none-of n number t k [] h = refl
none-of n number t k (p ∷ ps) h =
    list_any-append (is_of_txn n) (watches_posting t number k p) (watches_from t number (suc k) ps)
    ∙ or-none _ _ (here p.wanted) (none-of n number t (suc k) ps h)
  where
    here : (o : Option Assertion) → list_any (is_of_txn n) (watch_if (record { day = day_in t p; txn = number; posting = k }) p o) ≡ false
    here None = refl
    here (Some w) = or-none (number == n) false h refl

-- ---- the transactions that stand

among-append : (q : Watch) (xs ys : List Watch) → is_among q (xs ++ ys) ≡ (is_among q xs || is_among q ys)
among-append q xs ys = list_any-append (same q) xs ys

pub among-with : (q : Watch) (n : ℕ) (t : Txn) (es : Numbered Txn) → is_among q (watches_of (with_number n t es)) ≡ (is_among q (watches_in n t) || is_among q (watches_of es))
among-with q n t [] = among-append q (watches_in n t) []
among-with q n t (e ∷ es) =
    let rest = among-with q n t es in
    elim (all_greater n (e ∷ es)) as (λ b. is_among q (watches_of (cond b ((n, t) ∷ e ∷ es) (e ∷ with_number n t es))) ≡ (is_among q (watches_in n t) || is_among q (watches_of (e ∷ es)))) [
      | true ↦ among-append q (watches_in n t) (watches_of (e ∷ es))
      | false ↦
          among-append q (watches_in e.0 e.1) (watches_of (with_number n t es))
          ∙ ap (λ (b : Bool). is_among q (watches_in e.0 e.1) || b) rest
          ∙ swap (is_among q (watches_in e.0 e.1)) (is_among q (watches_in n t)) (is_among q (watches_of es))
          ∙ ap (λ (b : Bool). is_among q (watches_in n t) || b) (sym (among-append q (watches_in e.0 e.1) (watches_of es)))
    ]

pub AreOf-with : (n : ℕ) (t : Txn) (es : Numbered Txn) (old new : List Watch) → new ≡ put_all old (watches_from t n 0 t.postings) → AreOf es old → AreOf (with_number n t es) new
AreOf-with n t es old new e h = record {
  same = λ q.
      ap (is_among q) e
      ∙ among-put-all q old (watches_from t n 0 t.postings)
      ∙ (λ i. is_among q (from-is t n 0 t.postings i) || h.same q i)
      ∙ sym (among-with q n t es);
}

abbrev at_number : ℕ → Numbered Txn → Numbered Txn
at_number n es = filter (λ e. e.0 == n) es

join : (x f w : Bool) → (x || (f || w)) ≡ ((x || f) || w)
join true f w = refl
join false f w = refl

parts : (q : Watch) (n : ℕ) (es : Numbered Txn) → is_among q (watches_of es) ≡ (is_among q (watches_of (at_number n es)) || is_among q (watches_of (without_number n es)))
parts q n [] = refl
parts q n (e ∷ es) =
    let rest = parts q n es in
    among-append q (watches_in e.0 e.1) (watches_of es)
    ∙ ap (λ (b : Bool). is_among q (watches_in e.0 e.1) || b) rest
    ∙ (elim (e.0 == n) as (λ b. (is_among q (watches_in e.0 e.1) || (is_among q (watches_of (at_number n es)) || is_among q (watches_of (without_number n es)))) ≡ (is_among q (watches_of (cond b (e ∷ at_number n es) (at_number n es))) || is_among q (watches_of (cond (not b) (e ∷ without_number n es) (without_number n es))))) [
      | true ↦
          join (is_among q (watches_in e.0 e.1)) (is_among q (watches_of (at_number n es))) (is_among q (watches_of (without_number n es)))
          ∙ ap (λ (b : Bool). b || is_among q (watches_of (without_number n es))) (sym (among-append q (watches_in e.0 e.1) (watches_of (at_number n es))))
      | false ↦
          swap (is_among q (watches_in e.0 e.1)) (is_among q (watches_of (at_number n es))) (is_among q (watches_of (without_number n es)))
          ∙ ap (λ (b : Bool). is_among q (watches_of (at_number n es)) || b) (sym (among-append q (watches_in e.0 e.1) (watches_of (without_number n es))))
    ])

none-without : (n : ℕ) (es : Numbered Txn) → list_any (is_of_txn n) (watches_of (without_number n es)) ≡ false
none-without n [] = refl
none-without n (e ∷ es) =
    let rest = none-without n es in
    elim (e.0 == n) as (λ b. (e.0 == n) ≡ b → list_any (is_of_txn n) (watches_of (cond (not b) (e ∷ without_number n es) (without_number n es))) ≡ false) [
      | true ↦ λ h. rest
      | false ↦ λ h.
          list_any-append (is_of_txn n) (watches_in e.0 e.1) (watches_of (without_number n es))
          ∙ or-none _ _ (ap (list_any (is_of_txn n)) (sym (from-is e.1 e.0 0 e.1.postings)) ∙ none-of n e.0 e.1 0 e.1.postings h) rest
    ] refl

-- a watch of the transaction is no other's
apart : (q : Watch) (n : ℕ) (t : Txn) (es : Numbered Txn) → is_among q (watches_in n t) ≡ true → is_among q (watches_of (without_number n es)) ≡ true → ⊥
apart q n t es h k =
    elim (q.place.txn == n) as (λ b. (q.place.txn == n) ≡ b → ⊥) [
      | true ↦ λ e. false≢true (sym (none-without n es) ∙ found (is_of_txn n) q (watches_of (without_number n es)) k e)
      | false ↦ λ e. false≢true (sym (none-other t n 0 t.postings) ∙ found (is_of_other n) q (watches_from t n 0 t.postings) (ap (is_among q) (from-is t n 0 t.postings) ∙ h) (ap not e))
    ] refl

pub AreOf-without : (n : ℕ) (t : Txn) (es : Numbered Txn) (old new : List Watch) → new ≡ gone_all old (watches_from t n 0 t.postings) → AreOf es old → Stands n t es → AreOf (without_number n es) new
AreOf-without n t es old new e h stands = record {
  same = λ q.
      ap (is_among q) e
      ∙ among-gone-all q old (watches_from t n 0 t.postings)
      ∙ (λ i. not (is_among q (from-is t n 0 t.postings i)) && h.same q i)
      ∙ ap (λ (b : Bool). not (is_among q (watches_in n t)) && b) (parts q n es ∙ ap (λ (l : Numbered Txn). is_among q (watches_of l) || is_among q (watches_of (without_number n es))) stands)
      ∙ ap (λ (b : Bool). not (is_among q (watches_in n t)) && (b || is_among q (watches_of (without_number n es)))) (among-append q (watches_in n t) [] ∙ or-nothing (is_among q (watches_in n t)))
      ∙ rest (is_among q (watches_in n t)) (is_among q (watches_of (without_number n es))) (apart q n t es);
}
  where
    or-nothing : (a : Bool) → (a || false) ≡ a
    or-nothing true = refl
    or-nothing false = refl

    rest : (a w : Bool) → (a ≡ true → w ≡ true → ⊥) → (not a && (a || w)) ≡ w
    rest true w f = sym (not-true w (f refl))
    rest false w f = refl

-- ---- a book

pub AreOf-all : (es : Numbered Txn) (new : List Watch) → new ≡ put_all [] (watches_of es) → AreOf es new
AreOf-all es new e = record {
  same = λ q. ap (is_among q) e ∙ among-put-all q [] (watches_of es) ∙ or-nothing (is_among q (watches_of es));
}
  where
    or-nothing : (a : Bool) → (a || false) ≡ a
    or-nothing true = refl
    or-nothing false = refl

pub book-watches : (n : ℕ) (txns : List Txn) → watches_of (numbered_from n txns) ≡ flat_map watch_at (placed_from n txns)
book-watches n [] = refl
book-watches n (t ∷ txns) =
    ap (λ (l : List Watch). watches_in n t ++ l) (book-watches (suc n) txns)
    ∙ sym (flat_map-append watch_at (placed_in t n 0 t.postings) (placed_from (suc n) txns))
