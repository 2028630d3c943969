-- When a percentage can be told, and what it is.
use Rattle.std.proofs.Common.{◌≡◌, ℕ, ℤ, pos, ◌+◌, ◌*◌, ◌*ℤ◌, ◌^◌, ◌<◌, ◌≤◌, Bool, true, false, not, cond, ◌||◌, Option, Some, None, nat_le, nat_lt, unsigned_abs, inl, inr, refl, sym, ap, ◌∙◌, arith}
use Rattle.std.proofs.lemmas.Bool.{cases_lt}
use Rattle.std.proofs.lemmas.Bool.Decides.{nat_tests}
use Rattle.std.proofs.lemmas.Int.{ints}
use Rattle.std.proofs.Math.Nat.{mul-le-mul_left}
use Rattle.hl_num.specs.Decimal.{Decimal, negated}
use Rattle.hl_num.specs.Rounding.{half_even, signed_half_even, with_sign}
use Rattle.budget_layout.specs.Percents.{are_opposite, percent_of, percent_told}
use Rattle.budget_layout.specs.declared.percent.Percent.{Percent}
use Rattle.budget_layout.specs.declared.percent.Percent.TheVariants.{Told, OutOfRange}

-- ---- what the functions of a division answer

abbrev pub product_parts : ℕ → ℕ → Option ℕ
product_parts number scale = cond (nat_lt (number * scale) (2 ^ 127)) (Some (number * scale)) None

abbrev pub whole_of : Decimal → Decimal → ℕ
whole_of amount goal = unsigned_abs goal.mantissa * 10 ^ amount.places

abbrev pub number_of : ℕ → Decimal → Decimal → Decimal
number_of part amount goal = record { mantissa = with_sign (are_opposite amount goal) (half_even part (whole_of amount goal)); places = 0 }

abbrev pub by_parts : ℕ → Decimal → Decimal → Percent
by_parts part amount goal = cond (nat_lt (whole_of amount goal) (2 ^ 127)) (Told (number_of part amount goal)) OutOfRange

-- ---- tests

is_lt : (a b : ℕ) → a < b → nat_lt a b ≡ true
is_lt a b h = grind (arith, nat_tests)

is_not_lt : (a b : ℕ) → b ≤ a → nat_lt a b ≡ false
is_not_lt a b h = grind (arith, nat_tests)

is_le : (a b : ℕ) → a ≤ b → nat_le a b ≡ true
is_le a b h = grind (arith, nat_tests)

is_not_le : (a b : ℕ) → b < a → nat_le a b ≡ false
is_not_le a b h = grind (arith, nat_tests)

lt_from : (a b : ℕ) → nat_lt a b ≡ true → a < b
lt_from a b h = grind (arith, nat_tests)

le_from : (a b : ℕ) → nat_lt a b ≡ false → b ≤ a
le_from a b h = grind (arith, nat_tests)

le_not_lt : (a b : ℕ) → nat_le a b ≡ not (nat_lt b a)
le_not_lt a b = elim (cases_lt b a) [
  | inl less ↦ is_not_le a b less ∙ ap not (sym (is_lt b a less))
  | inr more ↦ is_le a b more ∙ ap not (sym (is_not_lt b a more))
]

none_some : {X : Type 0} (x : X) → None ≡ Some x → ⊥
none_some x h = cc

some_none : {X : Type 0} (x : X) → Some x ≡ None → ⊥
some_none x h = cc

some_same : {X : Type 0} (x y : X) → Some x ≡ Some y → x ≡ y
some_same x y h = cc

is_there : {X : Type 0} (b : Bool) (x y : X) → Some x ≡ cond b (Some y) None → x ≡ y
is_there true x y h = some_same x y h
is_there false x y h = absurd (some_none x h)

was_true : {X : Type 0} (b : Bool) (x y : X) → Some x ≡ cond b (Some y) None → b ≡ true
was_true true x y h = refl
was_true false x y h = absurd (some_none x h)

was_false : {X : Type 0} (b : Bool) (y : X) → None ≡ cond b (Some y) None → b ≡ false
was_false true y h = absurd (none_some y h)
was_false false y h = refl

turned : (b : Bool) (x y : Percent) → cond b x y ≡ cond (false || not b) y x
turned true x y = refl
turned false x y = refl

grows : (a c : ℕ) → 0 < c → a ≤ a * c
grows a c some = let one : 1 ≤ c = omega arith in omega (arith, mul-le-mul_left a one)

-- ---- products

module _ (number scale product : ℕ) (made : Some product ≡ product_parts number scale) where
  pub product_is : product ≡ number * scale
  product_is = is_there (nat_lt (number * scale) (2 ^ 127)) product (number * scale) made

  pub product_small : product < 2 ^ 127
  product_small =
      let less : number * scale < 2 ^ 127 = lt_from (number * scale) (2 ^ 127) (was_true (nat_lt (number * scale) (2 ^ 127)) product (number * scale) made) in
      omega (arith, less, product_is)

  pub product_some : 0 < number → 0 < scale → 0 < product
  product_some some more = let all : number ≤ number * scale = grows number scale more in omega (arith, all, product_is)

-- ---- the number

signed_is : (b : Bool) (n : ℕ) → cond b (negated (record { mantissa = pos n; places = 0 })) (record { mantissa = pos n; places = 0 })
    ≡ record { mantissa = with_sign b n; places = 0 }
signed_is true n = refl
signed_is false n = refl

-- a quotient without decimals
quotient_is : (n d : ℕ) → signed_half_even (pos n *ℤ pos (10 ^ 0)) d ≡ pos (half_even n d)
quotient_is n d =
    let one : pos n *ℤ pos (10 ^ 0) ≡ pos n = omega (arith, ints) in
    ap (λ (z : ℤ). signed_half_even z d) one ∙ ap (λ (b : Bool). with_sign b (half_even n d)) (is_not_lt n 0 (omega arith))

module _ (amount goal : Decimal) where
  pub by_some : (part whole : ℕ) (number result : Decimal) (negative : Bool) → Some whole ≡ product_parts (unsigned_abs goal.mantissa) (10 ^ amount.places)
      → number ≡ record { mantissa = signed_half_even (pos part *ℤ pos (10 ^ 0)) whole; places = 0 } → negative ≡ are_opposite amount goal
      → result ≡ cond negative (negated number) number → Told result ≡ by_parts part amount goal
  by_some part whole number result negative made is sign signed =
      let exact : number ≡ record { mantissa = pos (half_even part whole); places = 0 } =
      is ∙ (λ i. record { mantissa = quotient_is part whole i; places = 0 }) in
      ap (λ (d : Decimal). Told d)
      (signed ∙ (λ i. cond (sign i) (negated (exact i)) (exact i)) ∙ signed_is (are_opposite amount goal) (half_even part whole)
      ∙ ap (λ (w : ℕ). record { mantissa = with_sign (are_opposite amount goal) (half_even part w); places = 0 })
      (product_is (unsigned_abs goal.mantissa) (10 ^ amount.places) whole made))
      ∙ sym (ap (λ (b : Bool). cond b (Told (number_of part amount goal)) OutOfRange)
      (was_true (nat_lt (whole_of amount goal) (2 ^ 127)) whole (whole_of amount goal) made))

  pub by_none : (part : ℕ) → None ≡ product_parts (unsigned_abs goal.mantissa) (10 ^ amount.places) → OutOfRange ≡ by_parts part amount goal
  by_none part none =
      sym (ap (λ (b : Bool). cond b (Told (number_of part amount goal)) OutOfRange)
      (was_false (nat_lt (whole_of amount goal) (2 ^ 127)) (whole_of amount goal) none))

  abbrev part_of : ℕ
  part_of = unsigned_abs amount.mantissa * 10 ^ (goal.places + 2)

  pub told_some : (part : ℕ) (made : Percent) → Some part ≡ product_parts (unsigned_abs amount.mantissa) (10 ^ (goal.places + 2))
      → made ≡ by_parts part amount goal → made ≡ percent_told amount goal
  told_some part made some is =
      let small : part_of < 2 ^ 127 = lt_from part_of (2 ^ 127) (was_true (nat_lt part_of (2 ^ 127)) part part_of some) in
      is ∙ ap (λ (n : ℕ). by_parts n amount goal) (product_is (unsigned_abs amount.mantissa) (10 ^ (goal.places + 2)) part some)
      ∙ turned (nat_lt (whole_of amount goal) (2 ^ 127)) (Told (percent_of amount goal)) OutOfRange
      ∙ (λ i. cond (sym (is_not_le (2 ^ 127) part_of small) i || sym (le_not_lt (2 ^ 127) (whole_of amount goal)) i) OutOfRange (Told (percent_of amount goal)))

  pub told_none : None ≡ product_parts (unsigned_abs amount.mantissa) (10 ^ (goal.places + 2)) → OutOfRange ≡ percent_told amount goal
  told_none none =
      let least : 2 ^ 127 ≤ part_of = le_from part_of (2 ^ 127) (was_false (nat_lt part_of (2 ^ 127)) part_of none) in
      sym (ap (λ (b : Bool). cond (b || nat_le (2 ^ 127) (whole_of amount goal)) OutOfRange (Told (percent_of amount goal))) (is_le (2 ^ 127) part_of least))
