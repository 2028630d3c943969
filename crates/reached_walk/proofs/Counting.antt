-- How many numbers a set holds.
use Rattle.std.proofs.Common.{◌≡◌, ℕ, zero, suc, ◌+◌, ◌<◌, ◌≤◌, ◌==◌, Bool, true, false, ◌&&◌, ◌||◌, cond, not, ◌⊎◌, inl, inr, List, [], ◌∷◌, ◌++◌, length, filter, refl, sym, ap, subst, ◌∙◌, arith}
use Rattle.std.specs.List.{list_any, range_with_len, AllByRecursion}
use Rattle.std.proofs.lemmas.Bool.{false≢true, cases_Bool, cases_eq, eq-eqb, eqb-true, not_from_false, not_from_true}
use Rattle.watchers.proofs.Tests.{and-both, and-first, or-left, or-right}
use Rattle.reached_walk.specs.declared.place.Spot.{Spot}
use Rattle.reached_walk.specs.Spots.{holds, AreOnce}
use Rattle.reached_walk.proofs.Lists.{all-zip, none-all}

in-range : (a l m : ℕ) → a ≤ m → m < a + l → list_any (λ n. n == m) (range_with_len a l) ≡ true
in-range a zero m low high = absurd (omega arith)
in-range a (suc l) m low high =
    elim (cases_eq a m) as (λ _. list_any (λ n. n == m) (a ∷ range_with_len (a + 1) l) ≡ true) [
      | inl same ↦ or-left (a == m) (list_any (λ n. n == m) (range_with_len (a + 1) l)) (eq-eqb a m same)
      | inr other ↦ or-right (a == m) (list_any (λ n. n == m) (range_with_len (a + 1) l)) (in-range (a + 1) l m (above a m low other) (omega arith))
    ]
  where
    above : (a m : ℕ) → a ≤ m → (a ≡ m → ⊥) → a + 1 ≤ m
    above a m low other = omega arith

-- ---- a set within another one

step-more : (b c : Bool) (x : ℕ) (ys zs : List ℕ) → (b ≡ true → c ≡ true) → length ys ≤ length zs → length (cond b (x ∷ ys) ys) ≤ length (cond c (x ∷ zs) zs)
step-more true true x ys zs f h = omega arith
step-more true false x ys zs f h = absurd (false≢true (f refl))
step-more false true x ys zs f h = omega arith
step-more false false x ys zs f h = h

step-less : (b c : Bool) (x : ℕ) (ys zs : List ℕ) → (b ≡ true → c ≡ true) → length ys < length zs → length (cond b (x ∷ ys) ys) < length (cond c (x ∷ zs) zs)
step-less true true x ys zs f h = omega arith
step-less true false x ys zs f h = absurd (false≢true (f refl))
step-less false true x ys zs f h = omega arith
step-less false false x ys zs f h = h

step-here : (b c : Bool) (x : ℕ) (ys zs : List ℕ) → b ≡ false → c ≡ true → length ys ≤ length zs → length (cond b (x ∷ ys) ys) < length (cond c (x ∷ zs) zs)
step-here true c x ys zs p q h = absurd (false≢true (sym p))
step-here false true x ys zs p q h = omega arith
step-here false false x ys zs p q h = absurd (false≢true q)

module _ (p q : ℕ → Bool) (within : (n : ℕ) → q n ≡ true → p n ≡ true) where
  no-more : (xs : List ℕ) → length (filter q xs) ≤ length (filter p xs)
  no-more [] = omega arith
  no-more (x ∷ xs) = step-more (q x) (p x) x (filter q xs) (filter p xs) (within x) (no-more xs)

  -- which lacks one number of it
  pub lacks : (m : ℕ) → p m ≡ true → q m ≡ false → (xs : List ℕ) → list_any (λ n. n == m) xs ≡ true → length (filter q xs) < length (filter p xs)
  lacks m on off [] h = absurd (false≢true h)
  lacks m on off (x ∷ xs) h =
      elim (cases_Bool (x == m)) as (λ _. length (filter q (x ∷ xs)) < length (filter p (x ∷ xs))) [
        | inl same ↦
            let is : m ≡ x = sym (eqb-true x m same) in
            step-here (q x) (p x) x (filter q xs) (filter p xs) (subst (λ (n : ℕ). q n ≡ false) is off) (subst (λ (n : ℕ). p n ≡ true) is on) (no-more xs)
        | inr other ↦
            step-less (q x) (p x) x (filter q xs) (filter p xs) (within x)
            (lacks m on off xs (sym (ap (λ (b : Bool). b || list_any (λ n. n == m) xs) other) ∙ h))
      ]

pub fewer : (p q : ℕ → Bool) → ((n : ℕ) → q n ≡ true → p n ≡ true) → (m l : ℕ) → m < l → p m ≡ true → q m ≡ false → length (filter q (range_with_len 0 l)) < length (filter p (range_with_len 0 l))
fewer p q within m l inside on off = lacks p q within m on off (range_with_len 0 l) (in-range 0 l m (omega arith) (omega arith))

-- places with different numbers are no more than a set holds that all of them are in
pub few-of : (spots : List Spot) (set : ℕ → Bool) (l : ℕ) → AreOnce spots → AllByRecursion (λ (s : Spot). set s.number ≡ true) spots → AllByRecursion (λ (s : Spot). s.number < l) spots → length spots ≤ length (filter set (range_with_len 0 l))
few-of [] set l once all inside = omega arith
few-of (s ∷ spots) set l once all inside =
    let rest : length spots ≤ length (filter (λ n. set n && not (n == s.number)) (range_with_len 0 l)) =
    few-of spots (λ n. set n && not (n == s.number)) l once.1
    (all-zip (λ (t : Spot). set t.number ≡ true) (λ (t : Spot). (t.number == s.number) ≡ false) (λ (t : Spot). (set t.number && not (t.number == s.number)) ≡ true)
    (λ t on other. and-both (set t.number) (not (t.number == s.number)) on (not_from_false (t.number == s.number) other))
    spots all.1 (none-all (λ (t : Spot). t.number == s.number) spots once.0))
    inside.1 in
    let one : length (filter (λ n. set n && not (n == s.number)) (range_with_len 0 l)) < length (filter set (range_with_len 0 l)) =
    fewer set (λ n. set n && not (n == s.number)) (λ n on. and-first (set n) (not (n == s.number)) on) s.number l inside.0 all.0 (off (set s.number) s.number) in
    omega arith
  where
    off : (b : Bool) (n : ℕ) → (b && not (n == n)) ≡ false
    off true n = not_from_true (n == n) (eq-eqb n n refl)
    off false n = refl
