-- The front of a day's places, and a number among others.
use Rattle.std.proofs.Common.{◌≡◌, ℕ, suc, ◌+◌, ◌<◌, ◌==◌, Bool, true, false, cond, not, List, [], ◌∷◌, ◌++◌, length, get_or, take, drop, refl, sym, ap, ◌∙◌, arith}
use Rattle.std.specs.Prelude.{nat_lt}
use Rattle.std.proofs.lemmas.Bool.Decides.{nat_tests}
use Rattle.std.proofs.lemmas.List.{drop_more}
use Rattle.placed_sums.specs.declared.on_day.OnDay.{OnDay}
use Rattle.placed_sums.specs.Days.{numbers_in}
use Rattle.placed_sums.specs.Placing.{without_number}
use Rattle.shared_days.specs.Places.{is_lower, left, lower_count, lower_front, past_number, with_number}

pub eq-of : (n k : ℕ) → (n == k) ≡ true → n ≡ k
eq-of n k h = grind (arith, nat_tests)

-- ---- how many are lower

pub lower-more : (n : ℕ) (ps : List OnDay) (i : ℕ) (d : OnDay) → i < length ps → is_lower n (get_or ps i d) ≡ true → lower_count n (drop i ps) ≡ suc (lower_count n (drop (i + 1) ps))
lower-more n ps i d lt e =
    ap (lower_count n) (drop_more ps i d lt)
    ∙ ap (λ (b : Bool). cond b (suc (lower_count n (drop (i + 1) ps))) 0) e

pub lower-end : (n : ℕ) (ps : List OnDay) (i : ℕ) (d : OnDay) → i < length ps → is_lower n (get_or ps i d) ≡ false → lower_count n (drop i ps) ≡ 0
lower-end n ps i d lt e =
    ap (lower_count n) (drop_more ps i d lt)
    ∙ ap (λ (b : Bool). cond b (suc (lower_count n (drop (i + 1) ps))) 0) e

pub front-is : (n : ℕ) (ps : List OnDay) → take (lower_count n ps) ps ≡ lower_front n ps
front-is n [] = refl
front-is n (p ∷ ps) =
    elim (is_lower n p) as (λ b. take (cond b (suc (lower_count n ps)) 0) (p ∷ ps) ≡ cond b (p ∷ lower_front n ps) []) [
      | true ↦ ap (λ (l : List OnDay). p ∷ l) (front-is n ps)
      | false ↦ refl
    ]

-- ---- a number more, and one less

numbers-three : (xs : List OnDay) (p : OnDay) (zs : List OnDay) → numbers_in (xs ++ p ∷ [] ++ zs) ≡ numbers_in xs ++ p.number ∷ numbers_in zs
numbers-three [] p zs = refl
numbers-three (x ∷ xs) p zs = ap (λ (l : List ℕ). x.number ∷ l) (numbers-three xs p zs)

with-split : (n : ℕ) (ps : List OnDay) → numbers_in (take (lower_count n ps) ps) ++ n ∷ numbers_in (past_number n (drop (lower_count n ps) ps)) ≡ with_number n (numbers_in ps)
with-split n [] = refl
with-split n (p ∷ ps) =
    elim (is_lower n p) as (λ b. numbers_in (take (cond b (suc (lower_count n ps)) 0) (p ∷ ps)) ++ n ∷ numbers_in (past_number n (drop (cond b (suc (lower_count n ps)) 0) (p ∷ ps))) ≡ cond b (p.number ∷ with_number n (numbers_in ps)) (cond (p.number == n) (p.number ∷ numbers_in ps) (n ∷ p.number ∷ numbers_in ps))) [
      | true ↦ ap (λ (l : List ℕ). p.number ∷ l) (with-split n ps)
      | false ↦ here (p.number == n) refl
    ]
  where
    here : (b : Bool) → (p.number == n) ≡ b → n ∷ numbers_in (cond b ps (p ∷ ps)) ≡ cond b (p.number ∷ numbers_in ps) (n ∷ p.number ∷ numbers_in ps)
    here true e = ap (λ (k : ℕ). k ∷ numbers_in ps) (sym (eq-of p.number n e))
    here false e = refl

pub with-made : (n count : ℕ) (ps front back rest new : List OnDay) (p : OnDay) → count ≡ lower_count n ps → front ≡ take count ps → back ≡ drop count ps → rest ≡ past_number n back → p.number ≡ n → new ≡ front ++ p ∷ [] ++ rest → numbers_in new ≡ with_number n (numbers_in ps)
with-made n count ps front back rest new p c f b r is made =
    ap numbers_in made
    ∙ numbers-three front p rest
    ∙ (λ i. numbers_in (f i) ++ is i ∷ numbers_in ((r ∙ ap (past_number n) b) i))
    ∙ ap (λ (k : ℕ). numbers_in (take k ps) ++ n ∷ numbers_in (past_number n (drop k ps))) c
    ∙ with-split n ps

pub left-in : (n : ℕ) (ps : List OnDay) → numbers_in (without_number n ps) ≡ left n (numbers_in ps)
left-in n [] = refl
left-in n (p ∷ ps) =
    elim (p.number == n) as (λ b. numbers_in (cond (not b) (p ∷ without_number n ps) (without_number n ps)) ≡ cond (not b) (p.number ∷ left n (numbers_in ps)) (left n (numbers_in ps))) [
      | true ↦ left-in n ps
      | false ↦ ap (λ (l : List ℕ). p.number ∷ l) (left-in n ps)
    ]

-- ---- twice is once

self-low : (n : ℕ) → nat_lt n n ≡ false
self-low n = grind (arith, nat_tests)

self-eq : (n : ℕ) → (n == n) ≡ true
self-eq n = grind (arith, nat_tests)

with-first : (n : ℕ) (ks : List ℕ) → with_number n (n ∷ ks) ≡ n ∷ ks
with-first n ks =
    ap (λ (b : Bool). cond b (n ∷ with_number n ks) (cond (n == n) (n ∷ ks) (n ∷ n ∷ ks))) (self-low n)
    ∙ ap (λ (b : Bool). cond b (n ∷ ks) (n ∷ n ∷ ks)) (self-eq n)

pub with-again : (n : ℕ) (ks : List ℕ) → with_number n (with_number n ks) ≡ with_number n ks
with-again n [] = with-first n []
with-again n (j ∷ js) = by (nat_lt j n) (j == n) refl refl (with-again n js)
  where
    by : (a b : Bool) → nat_lt j n ≡ a → (j == n) ≡ b → with_number n (with_number n js) ≡ with_number n js → with_number n (cond a (j ∷ with_number n js) (cond b (j ∷ js) (n ∷ j ∷ js))) ≡ cond a (j ∷ with_number n js) (cond b (j ∷ js) (n ∷ j ∷ js))
    by true b e f rest =
        ap (λ (a : Bool). cond a (j ∷ with_number n (with_number n js)) (cond (j == n) (j ∷ with_number n js) (n ∷ j ∷ with_number n js))) e
        ∙ ap (λ (l : List ℕ). j ∷ l) rest
    by false true e f rest =
        ap (λ (a : Bool). cond a (j ∷ with_number n js) (cond (j == n) (j ∷ js) (n ∷ j ∷ js))) e
        ∙ ap (λ (b : Bool). cond b (j ∷ js) (n ∷ j ∷ js)) f
    by false false e f rest = with-first n (j ∷ js)

pub left-again : (n : ℕ) (ks : List ℕ) → left n (left n ks) ≡ left n ks
left-again n [] = refl
left-again n (j ∷ js) = by (j == n) refl (left-again n js)
  where
    by : (b : Bool) → (j == n) ≡ b → left n (left n js) ≡ left n js → left n (cond (not b) (j ∷ left n js) (left n js)) ≡ cond (not b) (j ∷ left n js) (left n js)
    by true e rest = rest
    by false e rest =
        ap (λ (b : Bool). cond (not b) (j ∷ left n (left n js)) (left n (left n js))) e
        ∙ ap (λ (l : List ℕ). j ∷ l) rest
