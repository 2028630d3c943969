-- When an average can be told, and what it is.
use Rattle.std.proofs.Common.{◌≡◌, ℕ, ℤ, pos, ◌+◌, ◌-◌, ◌*◌, ◌^◌, ◌<◌, ◌≤◌, ◌*ℤ◌, Bool, true, false, not, cond, ◌||◌, Option, Some, None, nat_le, nat_lt, unsigned_abs, inl, inr, refl, sym, ap, ◌∙◌, arith}
use Rattle.std.proofs.lemmas.Bool.{cases_lt}
use Rattle.std.proofs.lemmas.Bool.Decides.{nat_tests}
use Rattle.std.proofs.lemmas.Int.{unsigned_abs-mul}
use Rattle.std.proofs.lemmas.Nat.{pow-add}
use Rattle.std.proofs.Math.Nat.{mul-le-mul_left}
use Rattle.hl_num.specs.Decimal.{Decimal}
use Rattle.hl_num.specs.Rounding.{signed_half_even}
use Rattle.hl_num.proofs.DecimalLemmas.{mul-mul}
use Rattle.hl_num.proofs.RoundingLemmas.{pow_ten_positive}
use Rattle.balance_layouts.specs.Averages.{average_of, is_past}
use Rattle.balance_layouts.specs.KeptAverages.{told_average}

-- ---- what the functions of a division answer

abbrev pub divisor_parts : ℕ → ℕ → Option ℕ
divisor_parts columns scale = cond (nat_lt (columns * scale) (2 ^ 127)) (Some (columns * scale)) None

abbrev pub scaled_parts : ℤ → ℕ → Option ℤ
scaled_parts number scale = cond (nat_lt (unsigned_abs number * scale) (2 ^ 127)) (Some (number *ℤ pos scale)) None

abbrev pub rounded_parts : ℤ → ℕ → ℕ → ℕ → Option Decimal
rounded_parts number divisor missing places =
    cond (nat_lt (unsigned_abs number * 10 ^ missing) (2 ^ 127))
    (Some (record { mantissa = signed_half_even (number *ℤ pos (10 ^ missing)) divisor; places = places })) None

abbrev pub part_parts : ℤ → ℕ → ℕ → Option Decimal
part_parts number divisor places = rounded_parts number divisor places places

-- ---- tests

is_lt : (a b : ℕ) → a < b → nat_lt a b ≡ true
is_lt a b h = grind (arith, nat_tests)

is_not_lt : (a b : ℕ) → b ≤ a → nat_lt a b ≡ false
is_not_lt a b h = grind (arith, nat_tests)

is_le : (a b : ℕ) → a ≤ b → nat_le a b ≡ true
is_le a b h = grind (arith, nat_tests)

is_not_le : (a b : ℕ) → b < a → nat_le a b ≡ false
is_not_le a b h = grind (arith, nat_tests)

lt_from : (a b : ℕ) → nat_lt a b ≡ true → a < b
lt_from a b h = grind (arith, nat_tests)

le_from : (a b : ℕ) → nat_lt a b ≡ false → b ≤ a
le_from a b h = grind (arith, nat_tests)

le_not_lt : (a b : ℕ) → nat_le a b ≡ not (nat_lt b a)
le_not_lt a b = elim (cases_lt b a) [
  | inl less ↦ is_not_le a b less ∙ ap not (sym (is_lt b a less))
  | inr more ↦ is_le a b more ∙ ap not (sym (is_not_lt b a more))
]

or_true : (a : Bool) → (a || true) ≡ true
or_true true = refl
or_true false = refl

none_some : {X : Type 0} (x : X) → None ≡ Some x → ⊥
none_some x h = cc

some_none : {X : Type 0} (x : X) → Some x ≡ None → ⊥
some_none x h = cc

some_same : {X : Type 0} (x y : X) → Some x ≡ Some y → x ≡ y
some_same x y h = cc

-- what is there is the answer
is_there : {X : Type 0} (b : Bool) (x y : X) → Some x ≡ cond b (Some y) None → x ≡ y
is_there true x y h = some_same x y h
is_there false x y h = absurd (some_none x h)

was_true : {X : Type 0} (b : Bool) (x y : X) → Some x ≡ cond b (Some y) None → b ≡ true
was_true true x y h = refl
was_true false x y h = absurd (some_none x h)

was_false : {X : Type 0} (b : Bool) (y : X) → None ≡ cond b (Some y) None → b ≡ false
was_false true y h = absurd (none_some y h)
was_false false y h = refl

-- ---- a part

regroup : (a b c : ℕ) → a * b * c ≡ a * (b * c)
regroup a b c = omega arith

grows : (a c : ℕ) → 0 < c → a ≤ a * c
grows a c some = let one : 1 ≤ c = omega arith in omega (arith, mul-le-mul_left a one)

module _ (number : ℤ) (divisor places more : ℕ) (within : more ≤ places) where
  -- the decimals that are there and those that are missing
  whole : 10 ^ more * 10 ^ (places - more) ≡ 10 ^ places
  whole =
      let split : more + (places - more) ≡ places = omega arith in
      sym (pow-add 10 more (places - more)) ∙ ap (λ (n : ℕ). 10 ^ n) split

  size : unsigned_abs number * 10 ^ more * 10 ^ (places - more) ≡ unsigned_abs number * 10 ^ places
  size = regroup (unsigned_abs number) (10 ^ more) (10 ^ (places - more)) ∙ ap (λ (n : ℕ). unsigned_abs number * n) whole

  size_scaled : unsigned_abs (number *ℤ pos (10 ^ more)) * 10 ^ (places - more) ≡ unsigned_abs number * 10 ^ places
  size_scaled = ap (λ (n : ℕ). n * 10 ^ (places - more)) (unsigned_abs-mul number (pos (10 ^ more))) ∙ size

  value_scaled : number *ℤ pos (10 ^ more) *ℤ pos (10 ^ (places - more)) ≡ number *ℤ pos (10 ^ places)
  value_scaled = mul-mul number (10 ^ more) (10 ^ (places - more)) ∙ ap (λ (n : ℕ). number *ℤ pos n) whole

  pub part_some : (dividend : ℤ) → Some dividend ≡ scaled_parts number (10 ^ more) → rounded_parts dividend divisor (places - more) places ≡ part_parts number divisor places
  part_some dividend h =
      ap (λ (x : ℤ). rounded_parts x divisor (places - more) places) (is_there (nat_lt (unsigned_abs number * 10 ^ more) (2 ^ 127)) dividend (number *ℤ pos (10 ^ more)) h)
      ∙ (λ i. cond (nat_lt (size_scaled i) (2 ^ 127)) (Some (record { mantissa = signed_half_even (value_scaled i) divisor; places = places })) None)

  pub part_none : None ≡ scaled_parts number (10 ^ more) → None ≡ part_parts number divisor places
  part_none h =
      let least : 2 ^ 127 ≤ unsigned_abs number * 10 ^ more = le_from (unsigned_abs number * 10 ^ more) (2 ^ 127) (was_false (nat_lt (unsigned_abs number * 10 ^ more) (2 ^ 127)) (number *ℤ pos (10 ^ more)) h) in
      let greater : unsigned_abs number * 10 ^ more ≤ unsigned_abs number * 10 ^ more * 10 ^ (places - more) = grows (unsigned_abs number * 10 ^ more) (10 ^ (places - more)) (pow_ten_positive (places - more)) in
      let all : 2 ^ 127 ≤ unsigned_abs number * 10 ^ places = omega (arith, least, greater, size) in
      ap (λ (b : Bool). cond b (Some (record { mantissa = signed_half_even (number *ℤ pos (10 ^ places)) divisor; places = places })) None) (sym (is_not_lt (unsigned_abs number * 10 ^ places) (2 ^ 127) all))

-- ---- an average

turned_test : (b : Bool) (r : Decimal) → cond b (Some r) None ≡ cond (not b || false) None (Some r)
turned_test true r = refl
turned_test false r = refl

module _ (columns places : ℕ) (t : Decimal) where
  answer : Decimal
  answer = record { mantissa = average_of columns places t; places = places }

  pub average_some : (divisor : ℕ) → Some divisor ≡ divisor_parts columns (10 ^ t.places) → part_parts t.mantissa divisor places ≡ told_average columns places t
  unfolding answer
  average_some divisor h =
      let small : columns * 10 ^ t.places < 2 ^ 127 = lt_from (columns * 10 ^ t.places) (2 ^ 127) (was_true (nat_lt (columns * 10 ^ t.places) (2 ^ 127)) divisor (columns * 10 ^ t.places) h) in
      ap (λ (d : ℕ). part_parts t.mantissa d places) (is_there (nat_lt (columns * 10 ^ t.places) (2 ^ 127)) divisor (columns * 10 ^ t.places) h)
      ∙ turned_test (nat_lt (unsigned_abs t.mantissa * 10 ^ places) (2 ^ 127)) answer
      ∙ (λ i. cond (sym (le_not_lt (2 ^ 127) (unsigned_abs t.mantissa * 10 ^ places)) i || sym (is_not_le (2 ^ 127) (columns * 10 ^ t.places) small) i) None (Some answer))

  pub average_none : None ≡ divisor_parts columns (10 ^ t.places) → None ≡ told_average columns places t
  average_none h =
      let least : 2 ^ 127 ≤ columns * 10 ^ t.places = le_from (columns * 10 ^ t.places) (2 ^ 127) (was_false (nat_lt (columns * 10 ^ t.places) (2 ^ 127)) (columns * 10 ^ t.places) h) in
      let past : is_past columns places t ≡ true =
      ap (λ (b : Bool). nat_le (2 ^ 127) (unsigned_abs t.mantissa * 10 ^ places) || b) (is_le (2 ^ 127) (columns * 10 ^ t.places) least)
      ∙ or_true (nat_le (2 ^ 127) (unsigned_abs t.mantissa * 10 ^ places)) in
      ap (λ (b : Bool). cond b None (Some (record { mantissa = average_of columns places t; places = places }))) (sym past)

  -- the divisor is above zero
  pub some_divisor : (divisor : ℕ) → 0 < columns → Some divisor ≡ divisor_parts columns (10 ^ t.places) → (0 < divisor) × (divisor < 2 ^ 127)
  some_divisor divisor some h =
      let is : divisor ≡ columns * 10 ^ t.places = is_there (nat_lt (columns * 10 ^ t.places) (2 ^ 127)) divisor (columns * 10 ^ t.places) h in
      let small : columns * 10 ^ t.places < 2 ^ 127 = lt_from (columns * 10 ^ t.places) (2 ^ 127) (was_true (nat_lt (columns * 10 ^ t.places) (2 ^ 127)) divisor (columns * 10 ^ t.places) h) in
      let positive : columns ≤ columns * 10 ^ t.places = grows columns (10 ^ t.places) (pow_ten_positive t.places) in
      (omega (arith, is, positive), omega (arith, is, small))
