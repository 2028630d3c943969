-- Rounding half to even answers a nearest value, and where two are as near the even one.
use Rattle.std.proofs.Common.{ℕ, ℤ, pos, ◌≡◌, ◌+◌, ◌-◌, ◌*◌, ◌/◌, ◌%◌, ◌^◌, ◌<◌, ◌≤◌, ◌*ℤ◌, Bool, true, false, nat_le, if◌then◌else◌, int_lt, unsigned_abs, refl, sym, ap, ◌∙◌, subst, arith, ⊎_elim}
use Rattle.std.proofs.lemmas.Bool.{cases_lt, cases_order}
use Rattle.std.proofs.lemmas.Bool.Decides.{nat_tests}
use Rattle.std.proofs.lemmas.Int.{ints, unsigned_abs-mul}
use Rattle.std.proofs.lemmas.Nat.{div-add-mod', mod_below, pow-add}
use Rattle.std.proofs.Math.Nat.{mul-le-mul_right, mul_assoc, mul-lt-mul_of_pos_right}
use Rattle.hl_num.specs.Decimal.{Decimal, units_of}
use Rattle.hl_num.specs.Rounding.{half_even, with_sign, signed_half_even, rounded, distance, IsNearest}
use Rattle.hl_num.proofs.DecimalLemmas.{neg-mul}
use Rattle.hl_num.proofs.RoundingLemmas.{half_even-low, half_even-high, half_even-tie, pow_ten_positive}
use Rattle.hl_num.proofs.TrimLemmas.{with_sign-mul, unsigned_abs-with_sign}

-- how far two magnitudes are apart
abbrev gap : ℕ → ℕ → ℕ
gap a b = (a - b) + (b - a)

-- no multiple up to the quotient is nearer than the remainder, and none above it nearer than what lacks to the next
far_below : (n d k : ℕ) → k ≤ n / d → n % d ≤ gap n (k * d)
far_below n d k few = omega (arith, div-add-mod' n d, mul-le-mul_right d few)

far_above : (n d k : ℕ) → n / d < k → d ≤ gap n (k * d) + n % d
far_above n d k many = omega (arith, div-add-mod' n d, mul-le-mul_right d many)

far : (n d k h : ℕ) → h ≤ n % d → h + n % d ≤ d → h ≤ gap n (k * d)
far n d k h low high =
    ⊎_elim
    (λ many. omega (arith, far_above n d k many))
    (λ few. omega (arith, far_below n d k few))
    (cases_lt (n / d) k)

at_quotient : (n d : ℕ) → gap n (n / d * d) ≡ n % d
at_quotient n d = omega (arith, div-add-mod' n d)

at_next : (n d : ℕ) → n % d < d → gap n ((n / d + 1) * d) + n % d ≡ d
at_next n d below = omega (arith, div-add-mod' n d)

even_of : (q : ℕ) → (q + q % 2) % 2 ≡ 0
even_of q = omega arith

-- at a tie both neighbours are as near
at_tie : (n d : ℕ) → n % d < d → 2 * (n % d) ≡ d → gap n ((n / d + n / d % 2) * d) ≡ n % d
at_tie n d below tie =
    ⊎_elim
    (λ even. let same : n / d + n / d % 2 ≡ n / d = omega arith in ap (λ (x : ℕ). gap n (x * d)) same ∙ at_quotient n d)
    (λ odd. let next : n / d + n / d % 2 ≡ n / d + 1 = omega arith in ap (λ (x : ℕ). gap n (x * d)) next ∙ last)
    (cases_lt (n / d % 2) 1)
  where
    last : gap n ((n / d + 1) * d) ≡ n % d
    last = omega (arith, at_next n d below)

-- no multiple of the divisor is nearer to n
pub half_even-nearest : (n d k : ℕ) → 0 < d → gap n (half_even n d * d) ≤ gap n (k * d)
half_even-nearest n d k above =
    let below = mod_below n d above in
    ⊎_elim
    (λ tie. omega (arith, ap (λ (x : ℕ). gap n (x * d)) (half_even-tie n d tie), at_tie n d below tie, far n d k (n % d) (omega arith) (omega arith)))
    (⊎_elim
    (λ low. omega (arith, ap (λ (x : ℕ). gap n (x * d)) (half_even-low n d low), at_quotient n d, far n d k (n % d) (omega arith) (omega arith)))
    (λ high. omega (arith, ap (λ (x : ℕ). gap n (x * d)) (half_even-high n d high), at_next n d below, far n d k (d - n % d) (omega arith) (omega arith))))
    (cases_order (2 * (n % d)) d)

-- where another is as near, the quotient is even
pub half_even-even : (n d : ℕ) → 0 < d → 2 * gap n (half_even n d * d) ≡ d → half_even n d % 2 ≡ 0
half_even-even n d above as_near =
    let below = mod_below n d above in
    ⊎_elim
    (λ tie. ap (λ (x : ℕ). x % 2) (half_even-tie n d tie) ∙ even_of (n / d))
    (⊎_elim
    (λ low. absurd (omega (arith, as_near, ap (λ (x : ℕ). gap n (x * d)) (half_even-low n d low), at_quotient n d)))
    (λ high. absurd (omega (arith, as_near, ap (λ (x : ℕ). gap n (x * d)) (half_even-high n d high), at_next n d below))))
    (cases_order (2 * (n % d)) d)

-- a common factor
gap-more : (b x c : ℕ) → gap ((b + x) * c) (b * c) ≡ x * c
gap-more b x c = omega arith

gap-less : (a x c : ℕ) → gap (a * c) ((a + x) * c) ≡ x * c
gap-less a x c = omega arith

gap-mul : (a b c : ℕ) → gap (a * c) (b * c) ≡ gap a b * c
gap-mul a b c =
    ⊎_elim
    (λ less. ap (λ (x : ℕ). gap (a * c) (x * c)) (up_from a b (omega arith)) ∙ gap-less a (b - a) c ∙ ap (λ (x : ℕ). x * c) (only_less a b (omega arith)))
    (λ more. ap (λ (x : ℕ). gap (x * c) (b * c)) (up_from b a more) ∙ gap-more b (a - b) c ∙ ap (λ (x : ℕ). x * c) (only_more a b more))
    (cases_lt a b)
  where
    up_from : (x y : ℕ) → x ≤ y → y ≡ x + (y - x)
    up_from x y h = omega arith

    only_less : (x y : ℕ) → x ≤ y → y - x ≡ gap x y
    only_less x y h = omega arith

    only_more : (x y : ℕ) → y ≤ x → x - y ≡ gap x y
    only_more x y h = omega arith

distance-signed : (b : Bool) (x y : ℕ) → distance (with_sign b x) (with_sign b y) ≡ gap x y
distance-signed false x y = omega (arith, ints)
distance-signed true x y = omega (arith, ints)

distance-ge : (z w : ℤ) → gap (unsigned_abs z) (unsigned_abs w) ≤ distance z w
distance-ge z w = omega (arith, ints)

with_sign-scaled : (b : Bool) (k n : ℕ) → with_sign b k *ℤ pos n ≡ with_sign b (k * n)
with_sign-scaled false k n = refl
with_sign-scaled true k n = neg-mul k n

-- the value of a decimal by its sign and magnitude
units-signed : (m : ℤ) (n : ℕ) → m *ℤ pos n ≡ with_sign (int_lt m (pos 0)) (unsigned_abs m * n)
units-signed m n = sym (with_sign-mul m (unsigned_abs m) n n refl) ∙ with_sign-scaled (int_lt m (pos 0)) (unsigned_abs m) n

-- how far a value is from the one that it is rounded to
rounded-distance : (m : ℤ) (e c : ℕ) → distance (m *ℤ pos c) (signed_half_even m e *ℤ pos (e * c)) ≡ gap (unsigned_abs m) (half_even (unsigned_abs m) e * e) * c
rounded-distance m e c =
    let b = int_lt m (pos 0) in
    let n = unsigned_abs m in
    let h = half_even n e in
    ap (λ (x : ℤ). distance x (signed_half_even m e *ℤ pos (e * c))) (units-signed m c)
    ∙ ap (λ (x : ℤ). distance (with_sign b (n * c)) x) (with_sign-scaled b h (e * c))
    ∙ distance-signed b (n * c) (h * (e * c))
    ∙ ap (λ (x : ℕ). gap (n * c) x) (sym (mul_assoc h e c))
    ∙ gap-mul n (h * e) c

other-distance : (m other : ℤ) (e c : ℕ) → gap (unsigned_abs m) (unsigned_abs other * e) * c ≤ distance (m *ℤ pos c) (other *ℤ pos (e * c))
other-distance m other e c =
    let n = unsigned_abs m in
    let k = unsigned_abs other in
    let magnitudes : gap (unsigned_abs (m *ℤ pos c)) (unsigned_abs (other *ℤ pos (e * c))) ≡ gap n (k * e) * c =
    ap (λ (x : ℕ). gap x (unsigned_abs (other *ℤ pos (e * c)))) (unsigned_abs-mul m (pos c))
    ∙ ap (λ (x : ℕ). gap (n * c) x) (unsigned_abs-mul other (pos (e * c)) ∙ sym (mul_assoc k e c))
    ∙ gap-mul n (k * e) c in
    subst (λ (x : ℕ). x ≤ distance (m *ℤ pos c) (other *ℤ pos (e * c))) magnitudes (distance-ge (m *ℤ pos c) (other *ℤ pos (e * c)))

cancel : (x y c : ℕ) → 0 < c → x * c ≡ y * c → x ≡ y
cancel x y c above e =
    ⊎_elim
    (λ same. same)
    (⊎_elim (λ less. absurd (omega (arith, e, mul-lt-mul_of_pos_right less above))) (λ more. absurd (omega (arith, e, mul-lt-mul_of_pos_right more above))))
    (cases_order x y)

-- a value with more places than it is rounded to
nearest-fewer : (m : ℤ) (s p : ℕ) → p ≤ s → s ≤ 36 → IsNearest (record { mantissa = m; places = s }) p (record { mantissa = signed_half_even m (10 ^ (s - p)); places = p })
nearest-fewer m s p fewer few =
    let e = 10 ^ (s - p) in
    let c = 10 ^ (36 - s) in
    let split : 36 - p ≡ (s - p) + (36 - s) = omega arith in
    let unit : 10 ^ (36 - p) ≡ e * c = ap (λ (k : ℕ). 10 ^ k) split ∙ pow-add 10 (s - p) (36 - s) in
    let away = ap (λ (x : ℕ). distance (m *ℤ pos c) (signed_half_even m e *ℤ pos x)) unit ∙ rounded-distance m e c in
    record {
      nearest =
          λ other. let near = mul-le-mul_right c (half_even-nearest (unsigned_abs m) e (unsigned_abs other) (pow_ten_positive (s - p))) in
          subst (λ (x : ℕ). distance (m *ℤ pos c) (signed_half_even m e *ℤ pos (10 ^ (36 - p))) ≤ distance (m *ℤ pos c) (other *ℤ pos x)) (sym unit)
          (omega (arith, away, near, other-distance m other e c));
      tie_to_even =
          λ tie. let halves = ap (λ (x : ℕ). 2 * x) (sym away) ∙ tie ∙ unit in
          ap (λ (x : ℕ). x % 2) (unsigned_abs-with_sign (int_lt m (pos 0)) (half_even (unsigned_abs m) e))
          ∙ half_even-even (unsigned_abs m) e (pow_ten_positive (s - p)) (cancel (2 * gap (unsigned_abs m) (half_even (unsigned_abs m) e * e)) e c (pow_ten_positive (36 - s)) (omega (arith, halves)));
    }

-- a value that keeps its places
nearest-same : (d : Decimal) (p : ℕ) → IsNearest d p d
nearest-same d p =
    let none : distance (units_of d) (units_of d) ≡ 0 = omega (arith, ints) in
    record {
      nearest = λ other. rw none (omega arith);
      tie_to_even = λ tie. absurd (omega (arith, tie, none, pow_ten_positive (36 - p)));
    }

from_test : (s q : ℕ) → nat_le s q ≡ false → q ≤ s
from_test s q e = grind (arith, nat_tests)

-- what a number is rounded to is a nearest one
pub rounded-nearest : (d : Decimal) (p : ℕ) → d.places ≤ 36 → IsNearest d p (rounded d p)
rounded-nearest d p few =
    by_test (nat_le d.places p) refl
  where
    by_test : (t : Bool) → nat_le d.places p ≡ t → IsNearest d p (if t then d else record { mantissa = signed_half_even d.mantissa (10 ^ (d.places - p)); places = p })
    by_test true e = nearest-same d p
    by_test false e = nearest-fewer d.mantissa d.places p (from_test d.places p e) few
