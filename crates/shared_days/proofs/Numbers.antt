-- The numbers of a book's transactions under a day, with one more and with another form of one.
use Rattle.std.proofs.Common.{◌≡◌, ℕ, zero, suc, ◌+◌, ◌<◌, ◌≤◌, ◌==◌, Bool, true, false, ◌&&◌, cond, not, List, [], ◌∷◌, ◌++◌, filter, length, set, Option, Some, None, refl, sym, ap, ◌∙◌, arith}
use Rattle.std.specs.Prelude.{nat_lt, slice_get}
use Rattle.std.proofs.lemmas.Bool.{false≢true}
use Rattle.std.proofs.lemmas.Bool.Decides.{nat_tests}
use Rattle.hl_time.specs.declared.day.Day.{Day}
use Rattle.book.specs.declared.transaction.Txn.{Txn}
use Rattle.placed_sums.specs.declared.on_day.OnDay.{OnDay}
use Rattle.placed_sums.specs.Days.{AreDaysOf, numbers_in, places_before}
use Rattle.placed_sums.specs.Numbers.{earlier_on, has_on, numbers_from, numbers_on}
use Rattle.placed_sums.proofs.Daily.{book_with, txn_head, with_at}
use Rattle.placed_sums.proofs.Lasting.{earlier_told}
use Rattle.shared_days.specs.Places.{left, lower_front, with_number}

some-same : (a b : Txn) → Some a ≡ Some b → a ≡ b
some-same a b e = cc

none-there : (t : Txn) → ◌≡◌ {A = Option Txn} None (Some t) → ⊥
none-there t e = cc

-- ---- a transaction at a place

at-set : (ts : List Txn) (k : ℕ) (old t : Txn) → slice_get ts k ≡ Some old → with_at ts k t ≡ set ts k t
at-set [] k old t h = absurd (none-there old h)
at-set (u ∷ us) zero old t h = refl
at-set (u ∷ us) (suc k) old t h = ap (λ (ts : List Txn). u ∷ ts) (at-set us k old t h)

at-same : (ts : List Txn) (k : ℕ) (old : Txn) → slice_get ts k ≡ Some old → with_at ts k old ≡ ts
at-same [] k old h = absurd (none-there old h)
at-same (u ∷ us) zero old h = ap (λ (t : Txn). t ∷ us) (sym (some-same u old h))
at-same (u ∷ us) (suc k) old h = ap (λ (ts : List Txn). u ∷ ts) (at-same us k old h)

at-end : (ts : List Txn) (k : ℕ) (t : Txn) → k ≡ length ts → with_at ts k t ≡ ts ++ t ∷ []
at-end [] k t h = refl
at-end (u ∷ us) zero t h = absurd (omega arith)
at-end (u ∷ us) (suc k) t h = ap (λ (ts : List Txn). u ∷ ts) (at-end us k t (omega arith))

within : (ts : List Txn) (k : ℕ) (old : Txn) → slice_get ts k ≡ Some old → k ≤ length ts
within [] k old h = absurd (none-there old h)
within (u ∷ us) zero old h = omega arith
within (u ∷ us) (suc k) old h = let le : k ≤ length us = within us k old h in omega arith

-- a form's number, put in its place
abbrev changed : ℕ → Bool → List ℕ → List ℕ
changed n b ks = cond b (with_number n (left n ks)) (left n ks)

book-at : (d k : ℕ) (ts : List Txn) (t : Txn) → k ≤ length ts → numbers_on d (with_at ts k t) ≡ changed k (has_on d t) (numbers_on d ts)
book-at d k ts t le =
    let here : 0 + k ≡ k = omega arith in
    book_with d 0 k ts t le ∙ ap (λ (n : ℕ). changed n (has_on d t) (numbers_on d ts)) here

-- without a posting on the day it doesn't stand there
left-none : (d k : ℕ) (ts : List Txn) (old : Txn) → slice_get ts k ≡ Some old → has_on d old ≡ false → left k (numbers_on d ts) ≡ numbers_on d ts
left-none d k ts old h off =
    sym (sym (ap (numbers_on d) (at-same ts k old h))
    ∙ book-at d k ts old (within ts k old h)
    ∙ ap (λ (b : Bool). changed k b (numbers_on d ts)) off)

pub numbers-changed : (d k : ℕ) (ts : List Txn) (old new : Txn) (kept taken put : List ℕ) → slice_get ts k ≡ Some old → kept ≡ numbers_on d ts → taken ≡ cond (has_on d old) (left k kept) kept → put ≡ cond (has_on d new) (with_number k taken) taken → put ≡ numbers_on d (set ts k new)
numbers-changed d k ts old new kept taken put found is gone made =
    made
    ∙ ap (λ (ks : List ℕ). cond (has_on d new) (with_number k ks) ks) (gone ∙ ap (λ (ks : List ℕ). cond (has_on d old) (left k ks) ks) is ∙ by (has_on d old) refl)
    ∙ sym (book-at d k ts new (within ts k old found))
    ∙ ap (numbers_on d) (at-set ts k old new found)
  where
    by : (b : Bool) → has_on d old ≡ b → cond b (left k (numbers_on d ts)) (numbers_on d ts) ≡ left k (numbers_on d ts)
    by true e = refl
    by false e = sym (left-none d k ts old found e)

left-behind : (d m n : ℕ) (ts : List Txn) → m + length ts ≤ n → left n (numbers_from d m ts) ≡ numbers_from d m ts
left-behind d m n [] le = refl
left-behind d m n (t ∷ ts) le =
    let rest = left-behind d (suc m) n ts (omega arith) in
    let R = numbers_from d (suc m) ts in
    ap (left n) (txn_head d m t ts)
    ∙ (elim (has_on d t) as (λ b. left n (cond b (m ∷ R) R) ≡ cond b (m ∷ R) R) [
      | true ↦ ap (λ (b : Bool). cond (not b) (m ∷ left n R) (left n R)) (differ m n (omega arith)) ∙ ap (λ (ks : List ℕ). m ∷ ks) rest
      | false ↦ rest
    ])
    ∙ sym (txn_head d m t ts)
  where
    differ : (m n : ℕ) → m < n → (m == n) ≡ false
    differ m n lt = grind (arith, nat_tests)

pub numbers-added : (d k : ℕ) (ts : List Txn) (t : Txn) (kept put : List ℕ) → k ≡ length ts → kept ≡ numbers_on d ts → put ≡ cond (has_on d t) (with_number k kept) kept → put ≡ numbers_on d (ts ++ t ∷ [])
numbers-added d k ts t kept put end is made =
    made
    ∙ ap (λ (ks : List ℕ). cond (has_on d t) (with_number k ks) ks) (is ∙ sym (left-behind d 0 k ts (omega arith)))
    ∙ sym (book-at d k ts t (omega arith))
    ∙ ap (numbers_on d) (at-end ts k t end)

-- ---- those below a number

below-all : (d m n : ℕ) (ts : List Txn) → m + length ts ≤ n → filter (λ k. nat_lt k n) (numbers_from d m ts) ≡ numbers_from d m ts
below-all d m n [] le = refl
below-all d m n (t ∷ ts) le =
    let rest = below-all d (suc m) n ts (omega arith) in
    let R = numbers_from d (suc m) ts in
    ap (filter (λ k. nat_lt k n)) (txn_head d m t ts)
    ∙ (elim (has_on d t) as (λ b. filter (λ k. nat_lt k n) (cond b (m ∷ R) R) ≡ cond b (m ∷ R) R) [
      | true ↦ ap (λ (b : Bool). cond b (m ∷ filter (λ k. nat_lt k n) R) (filter (λ k. nat_lt k n) R)) (less m n (omega arith)) ∙ ap (λ (ks : List ℕ). m ∷ ks) rest
      | false ↦ rest
    ])
    ∙ sym (txn_head d m t ts)
  where
    less : (m n : ℕ) → m < n → nat_lt m n ≡ true
    less m n lt = grind (arith, nat_tests)

none-below : (d m n : ℕ) (ts : List Txn) → n ≤ m → filter (λ k. nat_lt k n) (numbers_from d m ts) ≡ []
none-below d m n [] le = refl
none-below d m n (t ∷ ts) le =
    let rest = none-below d (suc m) n ts (omega arith) in
    let R = numbers_from d (suc m) ts in
    ap (filter (λ k. nat_lt k n)) (txn_head d m t ts)
    ∙ (elim (has_on d t) as (λ b. filter (λ k. nat_lt k n) (cond b (m ∷ R) R) ≡ []) [
      | true ↦ ap (λ (b : Bool). cond b (m ∷ filter (λ k. nat_lt k n) R) (filter (λ k. nat_lt k n) R)) (not-less m n le) ∙ rest
      | false ↦ rest
    ])
  where
    not-less : (m n : ℕ) → n ≤ m → nat_lt m n ≡ false
    not-less m n lt = grind (arith, nat_tests)

abbrev front : ℕ → List ℕ → List ℕ
front n [] = []
front n (k ∷ ks) = cond (nat_lt k n) (k ∷ front n ks) []

front-in : (n : ℕ) (ps : List OnDay) → numbers_in (lower_front n ps) ≡ front n (numbers_in ps)
front-in n [] = refl
front-in n (p ∷ ps) =
    elim (nat_lt p.number n) as (λ b. numbers_in (cond b (p ∷ lower_front n ps) []) ≡ cond b (p.number ∷ front n (numbers_in ps)) []) [
      | true ↦ ap (λ (ks : List ℕ). p.number ∷ ks) (front-in n ps)
      | false ↦ refl
    ]

front-all : (d m n : ℕ) (ts : List Txn) → front n (numbers_from d m ts) ≡ filter (λ k. nat_lt k n) (numbers_from d m ts)
front-all d m n [] = refl
front-all d m n (t ∷ ts) =
    let rest = front-all d (suc m) n ts in
    let R = numbers_from d (suc m) ts in
    ap (front n) (txn_head d m t ts)
    ∙ (elim (has_on d t) as (λ b. front n (cond b (m ∷ R) R) ≡ filter (λ k. nat_lt k n) (cond b (m ∷ R) R)) [
      | true ↦ here (nat_lt m n) refl rest
      | false ↦ rest
    ])
    ∙ sym (ap (filter (λ k. nat_lt k n)) (txn_head d m t ts))
  where
    low : (m n : ℕ) → nat_lt m n ≡ false → n ≤ suc m
    low m n e = let le : n ≤ m = from m n e in omega arith
      where
        from : (m n : ℕ) → nat_lt m n ≡ false → n ≤ m
        from m n e = grind (arith, nat_tests)

    here : (b : Bool) → nat_lt m n ≡ b → front n (numbers_from d (suc m) ts) ≡ filter (λ k. nat_lt k n) (numbers_from d (suc m) ts) → cond b (m ∷ front n (numbers_from d (suc m) ts)) [] ≡ cond b (m ∷ filter (λ k. nat_lt k n) (numbers_from d (suc m) ts)) (filter (λ k. nat_lt k n) (numbers_from d (suc m) ts))
    here true e rest = ap (λ (ks : List ℕ). m ∷ ks) rest
    here false e rest = sym (none-below d (suc m) n ts (low m n e))

-- the front of a day's places that changed
pub earlier-front : (d n : ℕ) (ps : List OnDay) (ts : List Txn) → numbers_in ps ≡ numbers_on d ts → numbers_in (lower_front n ps) ≡ earlier_on d n ts
earlier-front d n ps ts is = front-in n ps ∙ ap (front n) is ∙ front-all d 0 n ts

before-both : (day : Day) (n most : ℕ) (ps : List OnDay) → n ≤ most → numbers_in (places_before day n ps) ≡ filter (λ k. nat_lt k n) (numbers_in (places_before day most ps))
before-both day n most [] le = refl
before-both day n most (p ∷ ps) le = by (p.day.0 == day.0) (nat_lt p.number n) (nat_lt p.number most) refl refl (before-both day n most ps le)
  where
    more : (k n most : ℕ) → n ≤ most → nat_lt k n ≡ true → nat_lt k most ≡ true
    more k n most le h = grind (arith, nat_tests)

    by : (a b c : Bool) → nat_lt p.number n ≡ b → nat_lt p.number most ≡ c → numbers_in (places_before day n ps) ≡ filter (λ k. nat_lt k n) (numbers_in (places_before day most ps)) → numbers_in (cond (a && b) (p ∷ places_before day n ps) (places_before day n ps)) ≡ filter (λ k. nat_lt k n) (numbers_in (cond (a && c) (p ∷ places_before day most ps) (places_before day most ps)))
    by true true true e f rest =
        ap (λ (ks : List ℕ). p.number ∷ ks) rest
        ∙ sym (ap (λ (b : Bool). cond b (p.number ∷ filter (λ k. nat_lt k n) (numbers_in (places_before day most ps))) (filter (λ k. nat_lt k n) (numbers_in (places_before day most ps)))) e)
    by true true false e f rest = absurd (false≢true (sym f ∙ more p.number n most le e))
    by true false true e f rest =
        rest
        ∙ sym (ap (λ (b : Bool). cond b (p.number ∷ filter (λ k. nat_lt k n) (numbers_in (places_before day most ps))) (filter (λ k. nat_lt k n) (numbers_in (places_before day most ps)))) e)
    by true false false e f rest = rest
    by false b c e f rest = rest

-- the places with which the days were made
pub earlier-made : (day : Day) (n most : ℕ) (ps : List OnDay) (ts : List Txn) → n ≤ most → numbers_in (places_before day most ps) ≡ numbers_on day.0 ts → numbers_in (places_before day n ps) ≡ earlier_on day.0 n ts
earlier-made day n most ps ts le is = before-both day n most ps le ∙ ap (filter (λ k. nat_lt k n)) is

pub made-of : (day : Day) (most : ℕ) (ps : List OnDay) (ts : List Txn) → length ts ≤ most → AreDaysOf ps ts → numbers_in (places_before day most ps) ≡ numbers_on day.0 ts
made-of day most ps ts le days = earlier_told ps ts day most days ∙ below-all day.0 0 most ts (omega arith)
