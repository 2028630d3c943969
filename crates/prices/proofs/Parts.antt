-- Products and values of the parts of fractions.
use Rattle.std.proofs.Common.{◌≡◌, ℕ, ℤ, ◌<◌, ◌≤◌, arith, ◌*◌, ◌^◌, ◌*ℤ◌, pos, unsigned_abs, Bool, true, false, ◌&&◌, cond, Option, Some, None, Ok, Err, refl, sym, ap, ◌∙◌}
use Rattle.std.specs.Prelude.{nat_lt}
use Rattle.std.proofs.lemmas.Bool.Decides.{nat_tests}
use Rattle.std.proofs.lemmas.Int.{unsigned_abs-mul}
use Rattle.std.proofs.Math.Nat.{le-mul_of_pos_right}
use Rattle.hl_num.proofs.RoundingLemmas.{pow_ten_positive}
use Rattle.hl_num.specs.Decimal.{Decimal}
use Rattle.hl_num.specs.Rounding.{signed_half_even}
use Rattle.prices.specs.Fraction.{Fraction}
use Rattle.prices.specs.Fractions.{reduced}

-- the product of two fractions
abbrev pub product_parts : ℤ → ℕ → ℤ → ℕ → Option Fraction
product_parts an ad bn bd = cond (nat_lt (unsigned_abs an * unsigned_abs bn) (2 ^ 127) && nat_lt (ad * bd) (2 ^ 127)) (Some (reduced (an *ℤ bn) (ad * bd))) None

-- the value of a number
abbrev pub value_parts : ℤ → ℤ → ℕ → ℕ → ℕ → Option Decimal
value_parts number num den scale places =
    cond (nat_lt (unsigned_abs number * unsigned_abs num * 10 ^ places) (2 ^ 127) && nat_lt (den * scale) (2 ^ 127))
    (Some (record { mantissa = signed_half_even (number *ℤ num *ℤ pos (10 ^ places)) (den * scale); places = places })) None

-- what is there is the answer
pub ok_from_some : {X E : Type 0} (b : Bool) (x y : X) (e : E) → Some x ≡ cond b (Some y) None → Ok x ≡ cond b (Ok y) (Err e)
ok_from_some true x y e h = let same : x ≡ y = some_same x y h in ap Ok same
  where
    some_same : {X : Type 0} (x y : X) → Some x ≡ Some y → x ≡ y
    some_same x y h = cc
ok_from_some false x y e h = absurd (none_some x h)
  where
    none_some : {X : Type 0} (x : X) → Some x ≡ None → ⊥
    none_some x h = cc

-- where nothing is there, the fault is the answer
pub err_from_none : {X E : Type 0} (b : Bool) (y : X) (e : E) → None ≡ cond b (Some y) None → Err e ≡ cond b (Ok y) (Err e)
err_from_none true y e h = absurd (none_some y h)
  where
    none_some : {X : Type 0} (x : X) → None ≡ Some x → ⊥
    none_some x h = cc
err_from_none false y e h = refl

-- the value of a product
abbrev pub over_parts : ℤ → ℕ → ℕ → ℕ → Option Decimal
over_parts product den scale places =
    cond (nat_lt (unsigned_abs product * 10 ^ places) (2 ^ 127) && nat_lt (den * scale) (2 ^ 127))
    (Some (record { mantissa = signed_half_even (product *ℤ pos (10 ^ places)) (den * scale); places = places })) None

abbrev pub product_at : ℤ → ℤ → Option ℤ
product_at number num = cond (nat_lt (unsigned_abs number * unsigned_abs num) (2 ^ 127)) (Some (number *ℤ num)) None

product_is : (b : Bool) (x y : ℤ) → Some x ≡ cond b (Some y) None → x ≡ y
product_is true x y h = cc
product_is false x y h = absurd (none_some x h)
  where
    none_some : (x : ℤ) → Some x ≡ None → ⊥
    none_some x h = cc

pub value_some : (number num product : ℤ) (den scale places : ℕ) → Some product ≡ product_at number num → over_parts product den scale places ≡ value_parts number num den scale places
value_some number num product den scale places h =
    ap (λ (x : ℤ). over_parts x den scale places) (product_is _ product (number *ℤ num) h)
    ∙ ap (λ (n : ℕ). cond (nat_lt (n * 10 ^ places) (2 ^ 127) && nat_lt (den * scale) (2 ^ 127)) (Some (record { mantissa = signed_half_even (number *ℤ num *ℤ pos (10 ^ places)) (den * scale); places = places })) None) (unsigned_abs-mul number num)

too_great : (b : Bool) (y : ℤ) → None ≡ cond b (Some y) None → b ≡ false
too_great true y h = absurd (none_some y h)
  where
    none_some : (x : ℤ) → None ≡ Some x → ⊥
    none_some x h = cc
too_great false y h = refl

still_great : (m n : ℕ) (limit : ℕ) → 0 < n → nat_lt m limit ≡ false → nat_lt (m * n) limit ≡ false
still_great m n limit above h =
    let more : m ≤ m * n = le-mul_of_pos_right m above in
    grind (arith, nat_tests, more, h)

pub value_none : (number num : ℤ) (den scale places : ℕ) → None ≡ product_at number num → None ≡ value_parts number num den scale places
value_none number num den scale places h =
    sym (ap (λ (b : Bool). cond (b && nat_lt (den * scale) (2 ^ 127)) (Some (record { mantissa = signed_half_even (number *ℤ num *ℤ pos (10 ^ places)) (den * scale); places = places })) None)
    (still_great (unsigned_abs number * unsigned_abs num) (10 ^ places) (2 ^ 127) (pow_ten_positive places) (too_great _ (number *ℤ num) h)))
