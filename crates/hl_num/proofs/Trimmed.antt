-- Decimals without zeros at their end: what they are worth, and that they are determined by it.
use Rattle.std.proofs.Common.{◌≡◌, ℕ, zero, suc, ℤ, pos, ◌+◌, ◌-◌, ◌*◌, ◌/◌, ◌%◌, ◌^◌, ◌==◌, ◌<◌, ◌≤◌, ◌*ℤ◌, int_lt, unsigned_abs, true, false, cond, ◌⊎◌, inl, inr, refl, sym, ap, ◌∙◌, arith}
use Rattle.std.proofs.lemmas.Bool.{eqb-true, cases_lt}
use Rattle.std.proofs.lemmas.Int.{ints, unsigned_abs-mul}
use Rattle.std.proofs.lemmas.Nat.{pow-add}
use Rattle.hl_num.specs.Decimal.{Decimal, units_of, IsTrimmed}
use Rattle.hl_num.specs.Rounding.{with_sign}
use Rattle.hl_num.proofs.DecimalLemmas.{cancel, mul-mul}
use Rattle.hl_num.proofs.RoundingLemmas.{pow_ten_positive}
use Rattle.hl_num.proofs.TrimLemmas.{with_sign-mul, drop_zero}
use Rattle.hl_num.specs.Shortest.{trimmed}

pub trimmed-units : (m : ℤ) (n : ℕ) → n ≤ 36 → units_of (trimmed m n) ≡ m *ℤ pos (10 ^ (36 - n))
trimmed-units m zero h = refl
trimmed-units m (suc n) h =
    elim (unsigned_abs m % 10 == 0) as (λ b. (unsigned_abs m % 10 == 0) ≡ b → units_of (cond b (trimmed (with_sign (int_lt m (pos 0)) (unsigned_abs m / 10)) n) (record { mantissa = m; places = suc n })) ≡ m *ℤ pos (10 ^ (36 - suc n))) [
      | true ↦ λ e. trimmed-units (with_sign (int_lt m (pos 0)) (unsigned_abs m / 10)) n (omega arith)
          ∙ with_sign-mul m (unsigned_abs m / 10) (10 ^ (36 - n)) (10 ^ (36 - suc n)) (let less : suc n - 1 ≡ n = omega arith in ap (λ k. unsigned_abs m / 10 * 10 ^ (36 - k)) (sym less) ∙ drop_zero (unsigned_abs m) (suc n) (omega arith) h (eqb-true (unsigned_abs m % 10) 0 e))
      | false ↦ λ e. refl
    ] refl

pub trimmed-places : (m : ℤ) (n : ℕ) → (trimmed m n).places ≤ n
trimmed-places m zero = omega arith
trimmed-places m (suc n) =
    elim (unsigned_abs m % 10 == 0) as (λ b. (cond b (trimmed (with_sign (int_lt m (pos 0)) (unsigned_abs m / 10)) n) (record { mantissa = m; places = suc n })).places ≤ suc n) [
      | true ↦ omega (arith, trimmed-places (with_sign (int_lt m (pos 0)) (unsigned_abs m / 10)) n)
      | false ↦ omega arith
    ]

pub trimmed-is : (m : ℤ) (n : ℕ) → IsTrimmed (trimmed m n)
trimmed-is m zero = λ h. absurd (omega arith)
trimmed-is m (suc n) =
    elim (unsigned_abs m % 10 == 0) as (λ b. (unsigned_abs m % 10 == 0) ≡ b → IsTrimmed (cond b (trimmed (with_sign (int_lt m (pos 0)) (unsigned_abs m / 10)) n) (record { mantissa = m; places = suc n }))) [
      | true ↦ λ e. trimmed-is (with_sign (int_lt m (pos 0)) (unsigned_abs m / 10)) n
      | false ↦ λ e h. some _ e
    ] refl
  where
    some : (k : ℕ) → (k == 0) ≡ false → 0 < k
    some zero e = absurd (let no : ⊥ = cc in no)
    some (suc k) e = omega arith

no_rest : (k n : ℕ) → 0 < n → (k * 10 ^ n) % 10 ≡ 0
no_rest k n h =
    let split : n ≡ (n - 1) + 1 = omega arith in
    let whole : k * 10 ^ n ≡ k * 10 ^ (n - 1) * 10 = ap (λ x. k * 10 ^ x) split ∙ ap (λ x. k * x) (pow-add 10 (n - 1) 1) ∙ omega arith in
    omega (arith, whole)

-- fewer places and the same value: a zero stands at the end
fewer : (a b : Decimal) → a.places < b.places → b.places ≤ 36 → IsTrimmed b → units_of a ≡ units_of b → ⊥
fewer a b less few trim same =
    let split : 36 - a.places ≡ (b.places - a.places) + (36 - b.places) = omega arith in
    let scaled : a.mantissa *ℤ pos (10 ^ (b.places - a.places)) *ℤ pos (10 ^ (36 - b.places)) ≡ b.mantissa *ℤ pos (10 ^ (36 - b.places)) =
    mul-mul a.mantissa (10 ^ (b.places - a.places)) (10 ^ (36 - b.places)) ∙ ap (λ (n : ℕ). a.mantissa *ℤ pos n) (sym (pow-add 10 (b.places - a.places) (36 - b.places)) ∙ ap (λ (k : ℕ). 10 ^ k) (sym split)) ∙ same in
    let is = cancel (a.mantissa *ℤ pos (10 ^ (b.places - a.places))) b.mantissa (10 ^ (36 - b.places)) (pow_ten_positive (36 - b.places)) scaled in
    let size : unsigned_abs b.mantissa ≡ unsigned_abs a.mantissa * 10 ^ (b.places - a.places) = ap unsigned_abs (sym is) ∙ unsigned_abs-mul a.mantissa (pos (10 ^ (b.places - a.places))) in
    let zero_rest = no_rest (unsigned_abs a.mantissa) (b.places - a.places) (omega arith) in
    let some = trim (omega arith) in
    omega (arith, some, ap (λ x. x % 10) size, zero_rest)

-- without zeros at the end the value determines a decimal
pub same_trimmed : (a b : Decimal) → a.places ≤ 36 → b.places ≤ 36 → IsTrimmed a → IsTrimmed b → units_of a ≡ units_of b → a ≡ b
same_trimmed a b few few_more trim trim_more same = by (cases_lt a.places b.places) (cases_lt b.places a.places)
  where
    by : (a.places < b.places) ⊎ (b.places ≤ a.places) → (b.places < a.places) ⊎ (a.places ≤ b.places) → a ≡ b
    by (inl less) _ = absurd (fewer a b less few_more trim_more same)
    by (inr more) (inl less) = absurd (fewer b a less few trim (sym same))
    by (inr more) (inr less) =
        let p : a.places ≡ b.places = omega arith in
        let m = cancel a.mantissa b.mantissa (10 ^ (36 - b.places)) (pow_ten_positive (36 - b.places)) (ap (λ (n : ℕ). a.mantissa *ℤ pos (10 ^ (36 - n))) (sym p) ∙ same) in
        λ i. record { mantissa = m i; places = p i }

by_one : (z : ℤ) → z *ℤ pos (10 ^ (36 - 36)) ≡ z
by_one z = omega (arith, ints)

-- a number without zeros at its end is the shortest one of its value
pub shortened_is : (d p : Decimal) → p.places ≤ 36 → IsTrimmed p → units_of p ≡ units_of d → p ≡ trimmed (units_of d) 36
shortened_is d p few trim same =
    same_trimmed p (trimmed (units_of d) 36) few (trimmed-places (units_of d) 36) trim (trimmed-is (units_of d) 36)
    (same ∙ sym (by_one (units_of d)) ∙ sym (trimmed-units (units_of d) 36 (omega arith)))
