-- Weights of the numbers that a set holds.
use Rattle.std.proofs.Common.{◌≡◌, ℕ, zero, suc, ◌+◌, ◌<◌, ◌≤◌, ◌==◌, Bool, true, false, ◌&&◌, ◌||◌, cond, not, inl, inr, List, [], ◌∷◌, filter, sum_by, refl, sym, ap, subst, ◌∙◌, arith}
use Rattle.std.specs.List.{list_any, range_with_len, AllByRecursion}
use Rattle.std.proofs.lemmas.Bool.{false≢true, cases_Bool, cases_eq, eq-eqb, eqb-true, not_from_false, not_from_true}
use Rattle.std.proofs.lemmas.List.Sums.{sum_by-cons}
use Rattle.watchers.proofs.Tests.{and-both, and-first, or-left, or-right}
use Rattle.reached_walk.specs.declared.place.Spot.{Spot}
use Rattle.reached_walk.specs.Spots.{AreOnce}
use Rattle.reached_walk.proofs.Lists.{all-zip, none-all}

in_range : (a l m : ℕ) → a ≤ m → m < a + l → list_any (λ n. n == m) (range_with_len a l) ≡ true
in_range a zero m low high = absurd (omega arith)
in_range a (suc l) m low high =
    elim (cases_eq a m) as (λ _. list_any (λ n. n == m) (a ∷ range_with_len (a + 1) l) ≡ true) [
      | inl same ↦ or-left (a == m) (list_any (λ n. n == m) (range_with_len (a + 1) l)) (eq-eqb a m same)
      | inr other ↦ or-right (a == m) (list_any (λ n. n == m) (range_with_len (a + 1) l)) (in_range (a + 1) l m (above a m low other) (omega arith))
    ]
  where
    above : (a m : ℕ) → a ≤ m → (a ≡ m → ⊥) → a + 1 ≤ m
    above a m low other = omega arith

-- ---- a set within another one

step_more : (w : ℕ → ℕ) (b c : Bool) (x : ℕ) (ys zs : List ℕ) → (b ≡ true → c ≡ true) → sum_by w ys ≤ sum_by w zs → sum_by w (cond b (x ∷ ys) ys) ≤ sum_by w (cond c (x ∷ zs) zs)
step_more w true true x ys zs f h = omega (arith, h, sum_by-cons w x ys, sum_by-cons w x zs)
step_more w true false x ys zs f h = absurd (false≢true (f refl))
step_more w false true x ys zs f h = omega (arith, h, sum_by-cons w x zs)
step_more w false false x ys zs f h = h

step_less : (w : ℕ → ℕ) (b c : Bool) (x k : ℕ) (ys zs : List ℕ) → (b ≡ true → c ≡ true) → sum_by w ys + k ≤ sum_by w zs → sum_by w (cond b (x ∷ ys) ys) + k ≤ sum_by w (cond c (x ∷ zs) zs)
step_less w true true x k ys zs f h = omega (arith, h, sum_by-cons w x ys, sum_by-cons w x zs)
step_less w true false x k ys zs f h = absurd (false≢true (f refl))
step_less w false true x k ys zs f h = omega (arith, h, sum_by-cons w x zs)
step_less w false false x k ys zs f h = h

step_here : (w : ℕ → ℕ) (b c : Bool) (x : ℕ) (ys zs : List ℕ) → b ≡ false → c ≡ true → sum_by w ys ≤ sum_by w zs → sum_by w (cond b (x ∷ ys) ys) + w x ≤ sum_by w (cond c (x ∷ zs) zs)
step_here w true c x ys zs p q h = absurd (false≢true (sym p))
step_here w false true x ys zs p q h = omega (arith, h, sum_by-cons w x zs)
step_here w false false x ys zs p q h = absurd (false≢true q)

no_more : (w : ℕ → ℕ) (p q : ℕ → Bool) → ((n : ℕ) → q n ≡ true → p n ≡ true) → (xs : List ℕ) → sum_by w (filter q xs) ≤ sum_by w (filter p xs)
no_more w p q within [] = omega arith
no_more w p q within (x ∷ xs) = step_more w (q x) (p x) x (filter q xs) (filter p xs) (within x) (no_more w p q within xs)

-- which lacks one number of it
lacks : (w : ℕ → ℕ) (p q : ℕ → Bool) → ((n : ℕ) → q n ≡ true → p n ≡ true) → (m : ℕ) → p m ≡ true → q m ≡ false → (xs : List ℕ) → list_any (λ n. n == m) xs ≡ true
    → sum_by w (filter q xs) + w m ≤ sum_by w (filter p xs)
lacks w p q within m on off [] h = absurd (false≢true h)
lacks w p q within m on off (x ∷ xs) h =
    elim (cases_Bool (x == m)) as (λ _. sum_by w (filter q (x ∷ xs)) + w m ≤ sum_by w (filter p (x ∷ xs))) [
      | inl same ↦
          let is : x ≡ m = eqb-true x m same in
          subst (λ (n : ℕ). sum_by w (filter q (x ∷ xs)) + w n ≤ sum_by w (filter p (x ∷ xs))) is
          (step_here w (q x) (p x) x (filter q xs) (filter p xs) (subst (λ (n : ℕ). q n ≡ false) (sym is) off) (subst (λ (n : ℕ). p n ≡ true) (sym is) on) (no_more w p q within xs))
      | inr other ↦
          step_less w (q x) (p x) x (w m) (filter q xs) (filter p xs) (within x)
          (lacks w p q within m on off xs (sym (ap (λ (b : Bool). b || list_any (λ n. n == m) xs) other) ∙ h))
    ]

-- places with different numbers weigh no more than a set that holds all of them
pub weight_of : (w : ℕ → ℕ) (spots : List Spot) (set : ℕ → Bool) (l : ℕ) → AreOnce spots → AllByRecursion (λ (s : Spot). set s.number ≡ true) spots → AllByRecursion (λ (s : Spot). s.number < l) spots
    → sum_by (λ (s : Spot). w s.number) spots ≤ sum_by w (filter set (range_with_len 0 l))
weight_of w [] set l once all inside = omega arith
weight_of w (s ∷ spots) set l once all inside =
    let rest : sum_by (λ (t : Spot). w t.number) spots ≤ sum_by w (filter (λ n. set n && not (n == s.number)) (range_with_len 0 l)) =
    weight_of w spots (λ n. set n && not (n == s.number)) l once.1
    (all-zip (λ (t : Spot). set t.number ≡ true) (λ (t : Spot). (t.number == s.number) ≡ false) (λ (t : Spot). (set t.number && not (t.number == s.number)) ≡ true)
    (λ t on other. and-both (set t.number) (not (t.number == s.number)) on (not_from_false (t.number == s.number) other))
    spots all.1 (none-all (λ (t : Spot). t.number == s.number) spots once.0))
    inside.1 in
    let here = inside.0 in
    let one : sum_by w (filter (λ n. set n && not (n == s.number)) (range_with_len 0 l)) + w s.number ≤ sum_by w (filter set (range_with_len 0 l)) =
    lacks w set (λ n. set n && not (n == s.number)) (λ n on. and-first (set n) (not (n == s.number)) on) s.number all.0 (off (set s.number) s.number)
    (range_with_len 0 l) (in_range 0 l s.number (omega arith) (omega (arith, here))) in
    omega (arith, rest, one, sum_by-cons (λ (t : Spot). w t.number) s spots)
  where
    off : (b : Bool) (n : ℕ) → (b && not (n == n)) ≡ false
    off true n = not_from_true (n == n) (eq-eqb n n refl)
    off false n = refl
