-- Zeros at the end of the decimals, and magnitudes with their signs.
use Rattle.std.proofs.Common.{ℕ, zero, suc, ℤ, pos, negsuc, ◌≡◌, ◌+◌, ◌-◌, ◌*◌, ◌/◌, ◌%◌, ◌^◌, ◌<◌, ◌≤◌, ◌*ℤ◌, neg_ℤ, Bool, true, false, nat_lt, int_lt, unsigned_abs, refl, sym, ap, ◌∙◌, arith}
use Rattle.std.proofs.lemmas.Bool.Decides.{nat_tests}
use Rattle.std.proofs.lemmas.Nat.{div-add-mod', pow-add}
use Rattle.std.proofs.Math.Nat.{mul_assoc}
use Rattle.hl_num.specs.Decimal.{Decimal, units_of}
use Rattle.hl_num.specs.Rounding.{with_sign}
use Rattle.hl_num.proofs.DecimalLemmas.{neg-mul, mul-mul}

pub unsigned_abs-with_sign : (b : Bool) (k : ℕ) → unsigned_abs (with_sign b k) ≡ k
unsigned_abs-with_sign false k = refl
unsigned_abs-with_sign true zero = refl
unsigned_abs-with_sign true (suc k) = refl

not_below_zero : (a : ℕ) → nat_lt a 0 ≡ false
not_below_zero a = grind (arith, nat_tests)

-- equal magnitudes with the sign of a number are equal
pub with_sign-mul : (m : ℤ) (k n n' : ℕ) → k * n ≡ unsigned_abs m * n' → with_sign (int_lt m (pos 0)) k *ℤ pos n ≡ m *ℤ pos n'
with_sign-mul (pos a) k n n' e = ap (λ (b : Bool). with_sign b k *ℤ pos n) (not_below_zero a) ∙ ap pos e
with_sign-mul (negsuc a) k n n' e = neg-mul k n ∙ ap (λ (x : ℕ). neg_ℤ (pos x)) e

-- one zero less
pub drop_zero : (k p : ℕ) → 0 < p → p ≤ 36 → k % 10 ≡ 0 → k / 10 * 10 ^ (36 - (p - 1)) ≡ k * 10 ^ (36 - p)
drop_zero k p some few none =
    let split : 36 - (p - 1) ≡ 1 + (36 - p) = omega arith in
    let whole : k / 10 * 10 ≡ k = omega (arith, div-add-mod' k 10, none) in
    ap (λ (x : ℕ). k / 10 * 10 ^ x) split
    ∙ ap (λ (x : ℕ). k / 10 * x) (pow-add 10 1 (36 - p))
    ∙ sym (mul_assoc (k / 10) 10 (10 ^ (36 - p)))
    ∙ ap (λ (x : ℕ). x * 10 ^ (36 - p)) whole

neg-none : (k : ℕ) → k ≡ 0 → pos k ≡ neg_ℤ (pos k)
neg-none zero h = refl
neg-none (suc k) h = absurd (omega arith)

pos-neg : (x y : ℕ) → pos x *ℤ neg_ℤ (pos y) ≡ neg_ℤ (pos (x * y))
pos-neg x zero = neg-none (x * 0) (omega arith)
pos-neg x (suc y) = refl

neg-neg : (x y : ℕ) → neg_ℤ (pos x) *ℤ neg_ℤ (pos y) ≡ pos (x * y)
neg-neg zero zero = refl
neg-neg zero (suc y) = sym (neg-none (0 * suc y) (omega arith))
neg-neg (suc x) zero = sym (neg-none (suc x * 0) (omega arith))
neg-neg (suc x) (suc y) = refl

four_factors : (a b k l n : ℕ) → n ≡ k * l → a * k * (b * l) ≡ a * b * n
four_factors a b k l n e = rw e (omega arith)

-- a product of scaled numbers
pub product-scaled : (a b : ℤ) (k l n : ℕ) → n ≡ k * l → a *ℤ pos k *ℤ (b *ℤ pos l) ≡ a *ℤ b *ℤ pos n
product-scaled (pos a) (pos b) k l n e = ap pos (four_factors a b k l n e)
product-scaled (pos a) (negsuc b) k l n e =
    pos-neg (a * k) (suc b * l) ∙ ap (λ (x : ℕ). neg_ℤ (pos x)) (four_factors a (suc b) k l n e) ∙ sym (neg-mul (a * suc b) n)
product-scaled (negsuc a) (pos b) k l n e =
    neg-mul (suc a * k) (b * l) ∙ ap (λ (x : ℕ). neg_ℤ (pos x)) (four_factors (suc a) b k l n e) ∙ sym (neg-mul (suc a * b) n)
product-scaled (negsuc a) (negsuc b) k l n e = neg-neg (suc a * k) (suc b * l) ∙ ap pos (four_factors (suc a) (suc b) k l n e)

-- the product of two values, from that of their mantissas
pub units_of-product : (a b : Decimal) → a.places + b.places ≤ 36 → a.mantissa *ℤ b.mantissa *ℤ pos (10 ^ (36 - (a.places + b.places))) *ℤ pos (10 ^ 36) ≡ units_of a *ℤ units_of b
units_of-product a b few =
    let powers : 36 - (a.places + b.places) + 36 ≡ (36 - a.places) + (36 - b.places) = omega arith in
    let scale : 10 ^ (36 - (a.places + b.places)) * 10 ^ 36 ≡ 10 ^ (36 - a.places) * 10 ^ (36 - b.places) =
    sym (pow-add 10 (36 - (a.places + b.places)) 36) ∙ ap (λ (k : ℕ). 10 ^ k) powers ∙ pow-add 10 (36 - a.places) (36 - b.places) in
    mul-mul (a.mantissa *ℤ b.mantissa) (10 ^ (36 - (a.places + b.places))) (10 ^ 36)
    ∙ sym (product-scaled a.mantissa b.mantissa (10 ^ (36 - a.places)) (10 ^ (36 - b.places)) (10 ^ (36 - (a.places + b.places)) * 10 ^ 36) scale)
