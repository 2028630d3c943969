-- What rounding half to even does to multiples, to scaled numbers and at the places of a decimal.
use Rattle.std.proofs.Common.{ℕ, ◌≡◌, ◌+◌, ◌-◌, ◌*◌, ◌/◌, ◌%◌, ◌^◌, ◌<◌, ◌≤◌, sym, ap, ◌∙◌, arith, lit<, ⊎_elim, pos, unsigned_abs}
use Rattle.std.proofs.lemmas.Bool.{cases_order}
use Rattle.std.proofs.lemmas.Bool.Decides.{nat_tests}
use Rattle.std.proofs.lemmas.Nat.{pow-add, mod-mul-add, div-add-mod', mod_below}
use Rattle.std.proofs.Math.Nat.{mul-mod_left, mul-div_cancel, mul-div-mul_right, mul-lt-mul_of_pos_right, mul_assoc, one-le-pow}
use Rattle.std.proofs.lemmas.Int.{unsigned_abs-mul}
use Rattle.hl_num.specs.Decimal.{Decimal, units_of}
use Rattle.hl_num.specs.Rounding.{half_even}
use Rattle.hl_num.proofs.DecimalLemmas.{pow_ten_below}

-- the three cases
pub half_even-low : (n d : ℕ) → 2 * (n % d) < d → half_even n d ≡ n / d
half_even-low n d h = grind (arith, nat_tests)

pub half_even-high : (n d : ℕ) → d < 2 * (n % d) → half_even n d ≡ n / d + 1
half_even-high n d h = grind (arith, nat_tests)

pub half_even-tie : (n d : ℕ) → 2 * (n % d) ≡ d → half_even n d ≡ n / d + n / d % 2
half_even-tie n d h = grind (arith, nat_tests)

-- a multiple is its own nearest
pub half_even-mul : (n d : ℕ) → 0 < d → half_even (n * d) d ≡ n
half_even-mul n d h =
    let none : n * d % d ≡ 0 = mul-mod_left n d in
    half_even-low (n * d) d (omega arith) ∙ mul-div_cancel n h

-- the remainder of a scaled division
pub mul-mod-mul : (n d c : ℕ) → 0 < d → 0 < c → (n * c) % (d * c) ≡ n % d * c
mul-mod-mul n d c above positive =
    let less : n % d * c < d * c = mul-lt-mul_of_pos_right (mod_below n d above) positive in
    let whole : n * c ≡ n / d * (d * c) + n % d * c = omega (arith, ap (λ (x : ℕ). x * c) (div-add-mod' n d)) in
    ap (λ (x : ℕ). x % (d * c)) whole ∙ mod-mul-add (n / d) (d * c) (n % d * c) less

-- a common factor changes nothing
pub half_even-scaled : (n d c : ℕ) → 0 < d → 0 < c → half_even (n * c) (d * c) ≡ half_even n d
half_even-scaled n d c above positive =
    let rest = mul-mod-mul n d c above positive in
    let whole = mul-div-mul_right {m = c} n d positive in
    ⊎_elim
    (λ tie. half_even-tie (n * c) (d * c) (omega (arith, rest, ap (λ (x : ℕ). x * c) tie)) ∙ ap (λ (x : ℕ). x + x % 2) whole ∙ sym (half_even-tie n d tie))
    (⊎_elim
    (λ low. half_even-low (n * c) (d * c) (omega (arith, rest, mul-lt-mul_of_pos_right low positive)) ∙ whole ∙ sym (half_even-low n d low))
    (λ high. half_even-high (n * c) (d * c) (omega (arith, rest, mul-lt-mul_of_pos_right high positive)) ∙ ap (λ (x : ℕ). x + 1) whole ∙ sym (half_even-high n d high)))
    (cases_order (2 * (n % d)) d)

pub pow_ten_positive : (k : ℕ) → 0 < 10 ^ k
pow_ten_positive k = one-le-pow k 10 (lit< tt)

-- a number with s places has more places exactly
pub half_even-more_places : (m s p : ℕ) → s ≤ p → p ≤ 36 → half_even (m * 10 ^ (36 - s)) (10 ^ (36 - p)) ≡ m * 10 ^ (p - s)
half_even-more_places m s p more few =
    let split : 36 - s ≡ (p - s) + (36 - p) = omega arith in
    ap (λ (k : ℕ). half_even (m * 10 ^ k) (10 ^ (36 - p))) split
    ∙ ap (λ (x : ℕ). half_even x (10 ^ (36 - p))) (ap (λ (x : ℕ). m * x) (pow-add 10 (p - s) (36 - p)) ∙ sym (mul_assoc m (10 ^ (p - s)) (10 ^ (36 - p))))
    ∙ half_even-mul (m * 10 ^ (p - s)) (10 ^ (36 - p)) (pow_ten_positive (36 - p))

-- with fewer places its mantissa is rounded
pub half_even-fewer_places : (m s p : ℕ) → p ≤ s → s ≤ 36 → half_even (m * 10 ^ (36 - s)) (10 ^ (36 - p)) ≡ half_even m (10 ^ (s - p))
half_even-fewer_places m s p fewer few =
    let split : 36 - p ≡ (s - p) + (36 - s) = omega arith in
    ap (λ (k : ℕ). half_even (m * 10 ^ (36 - s)) (10 ^ k)) split
    ∙ ap (λ (x : ℕ). half_even (m * 10 ^ (36 - s)) x) (pow-add 10 (s - p) (36 - s))
    ∙ half_even-scaled m (10 ^ (s - p)) (10 ^ (36 - s)) (pow_ten_positive (s - p)) (pow_ten_positive (36 - s))

-- the digits left and right of the decimal mark
pub scaled-div : (m s p : ℕ) → s ≤ p → m * 10 ^ (p - s) / 10 ^ p ≡ m / 10 ^ s
scaled-div m s p more =
    let split : p ≡ s + (p - s) = omega arith in
    ap (λ (k : ℕ). m * 10 ^ (p - s) / 10 ^ k) split
    ∙ ap (λ (x : ℕ). m * 10 ^ (p - s) / x) (pow-add 10 s (p - s))
    ∙ mul-div-mul_right {m = 10 ^ (p - s)} m (10 ^ s) (pow_ten_positive (p - s))

pub scaled-mod : (m s p : ℕ) → s ≤ p → m * 10 ^ (p - s) % 10 ^ p ≡ m % 10 ^ s * 10 ^ (p - s)
scaled-mod m s p more =
    let split : p ≡ s + (p - s) = omega arith in
    ap (λ (k : ℕ). m * 10 ^ (p - s) % 10 ^ k) split
    ∙ ap (λ (x : ℕ). m * 10 ^ (p - s) % x) (pow-add 10 s (p - s))
    ∙ mul-mod-mul m (10 ^ s) (10 ^ (p - s)) (pow_ten_positive s) (pow_ten_positive (p - s))

-- the magnitude of a decimal, rounded to no fewer places than it has
pub half_even-units-more : (v : Decimal) (p : ℕ) → v.places ≤ p → p ≤ 36 → half_even (unsigned_abs (units_of v)) (10 ^ (36 - p)) ≡ unsigned_abs v.mantissa * 10 ^ (p - v.places)
half_even-units-more v p more few =
    ap (λ (x : ℕ). half_even x (10 ^ (36 - p))) (unsigned_abs-mul v.mantissa (pos (10 ^ (36 - v.places))))
    ∙ half_even-more_places (unsigned_abs v.mantissa) v.places p more few

-- and to no more places
pub half_even-units-fewer : (v : Decimal) (p : ℕ) → p ≤ v.places → v.places ≤ 36 → half_even (unsigned_abs (units_of v)) (10 ^ (36 - p)) ≡ half_even (unsigned_abs v.mantissa) (10 ^ (v.places - p))
half_even-units-fewer v p fewer few =
    ap (λ (x : ℕ). half_even x (10 ^ (36 - p))) (unsigned_abs-mul v.mantissa (pos (10 ^ (36 - v.places))))
    ∙ half_even-fewer_places (unsigned_abs v.mantissa) v.places p fewer few

-- the parts of a number that keeps its places
pub parts-more : (v : Decimal) (m s p scale factor : ℕ) → m ≡ unsigned_abs v.mantissa → s ≡ v.places → s ≤ p → p ≤ 36 → scale ≡ 10 ^ s → factor ≡ 10 ^ (p - s)
    → (m / scale ≡ half_even (unsigned_abs (units_of v)) (10 ^ (36 - p)) / 10 ^ p) × (m % scale * factor ≡ half_even (unsigned_abs (units_of v)) (10 ^ (36 - p)) % 10 ^ p)
parts-more v m s p scale factor magnitude own more few is_scale is_factor =
    rw (is_scale, is_factor, magnitude, own)
    (let enough : v.places ≤ p = omega arith in
    rw (half_even-units-more v p enough few)
    (sym (scaled-div (unsigned_abs v.mantissa) v.places p enough), sym (scaled-mod (unsigned_abs v.mantissa) v.places p enough)))

-- the part right of the mark fits
pub fraction-below : (m s p : ℕ) → s ≤ p → p ≤ 36 → m % 10 ^ s * 10 ^ (p - s) < 2 ^ 127
fraction-below m s p more few =
    omega (arith, sym (scaled-mod m s p more), mod_below (m * 10 ^ (p - s)) (10 ^ p) (pow_ten_positive p), pow_ten_below p (omega arith))
