-- Values with no more decimals than they need.
use Rattle.std.proofs.Common.{◌≡◌, ℕ, ℤ, pos, zero, suc, ◌+◌, ◌-◌, ◌*◌, ◌/◌, ◌%◌, ◌^◌, ◌<◌, ◌≤◌, ◌*ℤ◌, unsigned_abs, inl, inr, refl, sym, ap, ◌∙◌, arith}
use Rattle.std.proofs.lemmas.Bool.{cases_lt}
use Rattle.std.proofs.lemmas.Int.{ints, unsigned_abs-mul}
use Rattle.std.proofs.lemmas.Nat.{pow-add, div-add-mod'}
use Rattle.std.proofs.Math.Nat.{mul-mod_left}
use Rattle.hl_num.specs.Decimal.{Decimal, units_of, IsTrimmed}
use Rattle.hl_num.proofs.RoundingLemmas.{mul-mod-mul, pow_ten_positive}
use Rattle.hl_num.proofs.Trimmed.{same_trimmed, trimmed-units, trimmed-places, trimmed-is}
use Rattle.hl_num.specs.Shortest.{shortest, trimmed}

by_one : (z : ℤ) → z *ℤ pos (10 ^ (36 - 36)) ≡ z
by_one z = omega (arith, ints)

pub shortest-few : (u : ℤ) → (shortest u).places ≤ 36
unfolding shortest
shortest-few u = trimmed-places u 36

pub shortest-units : (u : ℤ) → units_of (shortest u) ≡ u
unfolding shortest
shortest-units u = trimmed-units u 36 (omega arith) ∙ by_one u

pub shortest-trimmed : (u : ℤ) → IsTrimmed (shortest u)
unfolding shortest
shortest-trimmed u = trimmed-is u 36

-- a decimal without zeros at the end is the shortest one of its value
pub shortest-is : (d : Decimal) (u : ℤ) → d.places ≤ 36 → IsTrimmed d → units_of d ≡ u → d ≡ shortest u
shortest-is d u few trim same =
    same_trimmed d (shortest u) few (shortest-few u) trim (shortest-trimmed u) (same ∙ sym (shortest-units u))

-- a multiple of ten times a number ends with a zero
ends_in_zero : (m k : ℕ) → m % (10 * k) ≡ 0 → m % 10 ≡ 0
ends_in_zero m k none =
    let tens : m ≡ m / (10 * k) * k * 10 = omega (arith, div-add-mod' m (10 * k), none) in
    ap (λ (n : ℕ). n % 10) tens ∙ mul-mod_left (m / (10 * k) * k) 10

no_factor : (x a : ℕ) → 0 < a → x * a ≡ 0 → x ≡ 0
no_factor zero a some e = refl
no_factor (suc x) a some e = absurd (omega (arith, e))

-- what is left of a scaled value by a power of ten
left_by : (m a b c : ℕ) → 0 < a → 0 < b → c ≡ b * a → m * a % c ≡ 0 → m % b ≡ 0
left_by m a b c some more e none =
    no_factor (m % b) a some (sym (mul-mod-mul m b a more some) ∙ ap (λ (n : ℕ). m * a % n) (sym e) ∙ none)

-- a value that has no decimals past a place needs none there
needs_none : (t : Decimal) (p : ℕ) → t.places ≤ 36 → IsTrimmed t → unsigned_abs (units_of t) % 10 ^ (36 - p) ≡ 0 → p < t.places → ⊥
needs_none t p few trim whole less =
    let split : 36 - p ≡ (1 + (t.places - p - 1)) + (36 - t.places) = omega arith in
    let powers : 10 ^ (36 - p) ≡ 10 ^ (1 + (t.places - p - 1)) * 10 ^ (36 - t.places) =
    ap (λ (n : ℕ). 10 ^ n) split ∙ pow-add 10 (1 + (t.places - p - 1)) (36 - t.places) in
    let value : unsigned_abs (units_of t) ≡ unsigned_abs t.mantissa * 10 ^ (36 - t.places) = unsigned_abs-mul t.mantissa (pos (10 ^ (36 - t.places))) in
    let none : unsigned_abs t.mantissa * 10 ^ (36 - t.places) % 10 ^ (36 - p) ≡ 0 = ap (λ (n : ℕ). n % 10 ^ (36 - p)) (sym value) ∙ whole in
    let left : unsigned_abs t.mantissa % 10 ^ (1 + (t.places - p - 1)) ≡ 0 =
    left_by (unsigned_abs t.mantissa) (10 ^ (36 - t.places)) (10 ^ (1 + (t.places - p - 1))) (10 ^ (36 - p)) (pow_ten_positive (36 - t.places)) (pow_ten_positive (1 + (t.places - p - 1))) powers none in
    let ten : 10 ^ (1 + (t.places - p - 1)) ≡ 10 * 10 ^ (t.places - p - 1) = pow-add 10 1 (t.places - p - 1) in
    let zero_there : unsigned_abs t.mantissa % 10 ≡ 0 = ends_in_zero (unsigned_abs t.mantissa) (10 ^ (t.places - p - 1)) (ap (λ (n : ℕ). unsigned_abs t.mantissa % n) (sym ten) ∙ left) in
    let some : 0 < unsigned_abs t.mantissa % 10 = trim (omega arith) in
    omega (arith, zero_there, some)

pub shortest-whole : (u : ℤ) (p : ℕ) → unsigned_abs u % 10 ^ (36 - p) ≡ 0 → (shortest u).places ≤ p
shortest-whole u p whole =
    elim (cases_lt p (shortest u).places) [
      | inl less ↦ absurd (needs_none (shortest u) p (shortest-few u) (shortest-trimmed u) (ap (λ (z : ℤ). unsigned_abs z % 10 ^ (36 - p)) (shortest-units u) ∙ whole) less)
      | inr le ↦ le
    ]
