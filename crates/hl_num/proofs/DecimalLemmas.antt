-- Facts on integers, powers of ten and units.
use Rattle.std.proofs.Common.{ℕ, ℤ, pos, negsuc, ◌≡◌, ◌+◌, ◌-◌, ◌*◌, ◌/◌, ◌^◌, ◌<◌, ◌≤◌, ◌+ℤ◌, ◌*ℤ◌, neg_ℤ, refl, sym, ap, ◌∙◌, arith, lit<, unsigned_abs, zero, suc, zero-mul, Bool, true, ◌&&◌, nat_lt}
use Rattle.std.proofs.lemmas.Int.{unsigned_abs-mul}
use Rattle.std.proofs.lemmas.Bool.Decides.{nat_tests}
use Rattle.std.proofs.lemmas.Nat.{pow-add}
use Rattle.std.proofs.Math.Nat.{pow-le-pow_right, mul_assoc, mul-div_cancel, mul-le-mul_left}
use borrow.Author.Differences.{up, down, product_is, sum_is_lem, same_in}
use Rattle.hl_num.specs.Decimal.{Decimal, units_of, mantissa_at, sum_fits_at}

pub up-mul : (a : ℤ) (n : ℕ) → up (a *ℤ pos n) ≡ up a * n
up-mul a n = omega (arith, (product_is a (pos n)).0)

pub down-mul : (a : ℤ) (n : ℕ) → down (a *ℤ pos n) ≡ down a * n
down-mul a n = omega (arith, (product_is a (pos n)).1)

same_times : (a b n : ℕ) → 0 < n → a * n ≡ b * n → a ≡ b
same_times a b n h e = sym (mul-div_cancel a h) ∙ ap (λ x. x / n) e ∙ mul-div_cancel b h

-- a factor that isn't zero cancels
pub cancel : (x y : ℤ) (n : ℕ) → 0 < n → x *ℤ pos n ≡ y *ℤ pos n → x ≡ y
cancel x y n h e =
    let above = same_times (up x) (up y) n h (sym (up-mul x n) ∙ ap up e ∙ up-mul y n) in
    let below = same_times (down x) (down y) n h (sym (down-mul x n) ∙ ap down e ∙ down-mul y n) in
    same_in _ _ (omega (arith, above, below))

-- a product distributes over a sum
pub mul-add : (a b : ℤ) (n : ℕ) → (a +ℤ b) *ℤ pos n ≡ a *ℤ pos n +ℤ b *ℤ pos n
mul-add a b n =
    let scaled = ap (λ (x : ℕ). x * n) (sum_is_lem a b) in
    same_in _ _ (omega (arith, scaled, up-mul (a +ℤ b) n, down-mul (a +ℤ b) n, up-mul a n, down-mul a n, up-mul b n, down-mul b n, sum_is_lem (a *ℤ pos n) (b *ℤ pos n)))

pub neg-mul : (k n : ℕ) → neg_ℤ (pos k) *ℤ pos n ≡ neg_ℤ (pos (k * n))
neg-mul zero n = rw zero-mul refl
neg-mul (suc k) n = refl

-- two factors one after the other are one
pub mul-mul : (a : ℤ) (m n : ℕ) → a *ℤ pos m *ℤ pos n ≡ a *ℤ pos (m * n)
mul-mul (pos a) m n = ap pos (mul_assoc a m n)
mul-mul (negsuc a) m n = neg-mul (suc a * m) n ∙ ap (λ (k : ℕ). neg_ℤ (pos k)) (mul_assoc (suc a) m n)

-- a power of ten that an exponent of at most 38 gives fits 127 bits
pub pow_ten_below : (k : ℕ) → k ≤ 38 → 10 ^ k < 2 ^ 127
pow_ten_below k h =
    let small : 10 ^ k ≤ 10 ^ 38 = pow-le-pow_right {n = 10} (lit< tt) h in
    let top : 10 ^ 38 < 2 ^ 127 = lit< tt in
    omega (arith, small, top)

-- more places leave the value as it is
pub units_of-mantissa_at : (d : Decimal) (p : ℕ) → d.places ≤ p → p ≤ 36 → mantissa_at d p *ℤ pos (10 ^ (36 - p)) ≡ units_of d
units_of-mantissa_at d p more few =
    let split : 36 - d.places ≡ (p - d.places) + (36 - p) = omega arith in
    mul-mul d.mantissa (10 ^ (p - d.places)) (10 ^ (36 - p))
    ∙ ap (λ (n : ℕ). d.mantissa *ℤ pos n) (sym (pow-add 10 (p - d.places) (36 - p)) ∙ ap (λ (k : ℕ). 10 ^ k) (sym split))

-- the sum of the mantissas at one number of places is the exact sum
pub units_of-sum : (a b : Decimal) (p : ℕ) → a.places ≤ p → b.places ≤ p → p ≤ 36 → (mantissa_at a p +ℤ mantissa_at b p) *ℤ pos (10 ^ (36 - p)) ≡ units_of a +ℤ units_of b
units_of-sum a b p more more_still few =
    mul-add (mantissa_at a p) (mantissa_at b p) (10 ^ (36 - p))
    ∙ ap (λ (x : ℤ). x +ℤ mantissa_at b p *ℤ pos (10 ^ (36 - p))) (units_of-mantissa_at a p more few)
    ∙ ap (λ (x : ℤ). units_of a +ℤ x) (units_of-mantissa_at b p more_still few)

-- a value is zero exactly where its mantissa is
pub zero-from_units : (m : ℤ) (n : ℕ) → 0 < n → m *ℤ pos n ≡ pos 0 → m ≡ pos 0
zero-from_units m n positive none =
    unsigned_abs-zero m (zero-from_product (unsigned_abs m) n positive (sym (unsigned_abs-mul m (pos n)) ∙ ap unsigned_abs none))
  where
    zero-from_product : (a k : ℕ) → 0 < k → a * k ≡ 0 → a ≡ 0
    zero-from_product zero k h e = refl
    zero-from_product (suc a) k h e = absurd (omega (arith, mul-le-mul_left (suc a) h))

    unsigned_abs-zero : (z : ℤ) → unsigned_abs z ≡ 0 → z ≡ pos 0
    unsigned_abs-zero (pos a) e = ap pos e
    unsigned_abs-zero (negsuc a) e = absurd (omega arith)

mul-one : (a : ℤ) → a *ℤ pos 1 ≡ a
mul-one (pos a) =
    let e : a * 1 ≡ a = omega arith in
    ap pos e
mul-one (negsuc a) =
    let e : suc a * 1 ≡ suc a = omega arith in
    ap (λ (k : ℕ). neg_ℤ (pos k)) e

-- at its own number of places a mantissa stays as it is
pub mantissa_at-own : (d : Decimal) (p : ℕ) → d.places ≡ p → mantissa_at d p ≡ d.mantissa
mantissa_at-own d p e =
    let none : p - d.places ≡ 0 = omega arith in
    ap (λ (k : ℕ). d.mantissa *ℤ pos (10 ^ k)) none ∙ mul-one d.mantissa

is_below : (n : ℕ) → n < 2 ^ 127 → nat_lt n (2 ^ 127) ≡ true
is_below n h = grind (arith, nat_tests)

-- the sum of two numbers with the same places is that of their mantissas
pub sum-alike : (a b : Decimal) (p : ℕ) → a.places ≡ p → b.places ≡ p → mantissa_at a p +ℤ mantissa_at b p ≡ a.mantissa +ℤ b.mantissa
sum-alike a b p ea eb =
    ap (λ (x : ℤ). x +ℤ mantissa_at b p) (mantissa_at-own a p ea)
    ∙ ap (λ (y : ℤ). a.mantissa +ℤ y) (mantissa_at-own b p eb)

-- and fits where that does
pub fits-alike : (a b : Decimal) (p : ℕ) → a.places ≡ p → b.places ≡ p → unsigned_abs a.mantissa < 2 ^ 127 → unsigned_abs b.mantissa < 2 ^ 127 → sum_fits_at a b p ≡ nat_lt (unsigned_abs (a.mantissa +ℤ b.mantissa)) (2 ^ 127)
fits-alike a b p ea eb fa fb =
    let fits : ℤ → ℤ → Bool = λ x y. nat_lt (unsigned_abs x) (2 ^ 127) && nat_lt (unsigned_abs y) (2 ^ 127) && nat_lt (unsigned_abs (x +ℤ y)) (2 ^ 127) in
    let sum : Bool = nat_lt (unsigned_abs (a.mantissa +ℤ b.mantissa)) (2 ^ 127) in
    ap (λ (x : ℤ). fits x (mantissa_at b p)) (mantissa_at-own a p ea)
    ∙ ap (λ (y : ℤ). fits a.mantissa y) (mantissa_at-own b p eb)
    ∙ ap (λ (t : Bool). t && nat_lt (unsigned_abs b.mantissa) (2 ^ 127) && sum) (is_below (unsigned_abs a.mantissa) fa)
    ∙ ap (λ (t : Bool). t && sum) (is_below (unsigned_abs b.mantissa) fb)
