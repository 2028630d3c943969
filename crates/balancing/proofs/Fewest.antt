-- A number with as few decimals as it needs.
use Rattle.std.proofs.Common.{◌≡◌, ℕ, ℤ, pos, ◌+◌, ◌-◌, ◌^◌, ◌≤◌, ◌*ℤ◌, sym, ap, ◌∙◌, subst, arith}
use Rattle.std.proofs.lemmas.Int.{ints}
use Rattle.std.proofs.lemmas.Nat.{pow-add}
use Rattle.hl_num.specs.Decimal.{Decimal, units_of, mantissa_at, IsTrimmed}
use Rattle.hl_num.proofs.DecimalLemmas.{cancel, mul-mul}
use Rattle.hl_num.proofs.RoundingLemmas.{pow_ten_positive}
use Rattle.entry_balance.specs.Values.{trimmed}
use Rattle.hl_num.proofs.Trimmed.{same_trimmed, trimmed-units, trimmed-places, trimmed-is}

by_one : (z : ℤ) → z *ℤ pos (10 ^ (36 - 36)) ≡ z
by_one z = omega (arith, ints)

-- it has the same value
pub trimmed_value : (z : ℤ) → units_of (trimmed z 36) ≡ z
trimmed_value z = trimmed-units z 36 (omega arith) ∙ by_one z

-- and no more decimals than any number of its value
pub fewest : (t : Decimal) → t.places ≤ 36 → (trimmed (units_of t) 36).places ≤ t.places
fewest t few =
    let is : trimmed t.mantissa t.places ≡ trimmed (units_of t) 36 =
    same_trimmed (trimmed t.mantissa t.places) (trimmed (units_of t) 36) (omega (arith, trimmed-places t.mantissa t.places, few)) (trimmed-places (units_of t) 36) (trimmed-is t.mantissa t.places) (trimmed-is (units_of t) 36)
    (trimmed-units t.mantissa t.places few ∙ sym (trimmed_value (units_of t))) in
    subst (λ (d : Decimal). d.places ≤ t.places) is (trimmed-places t.mantissa t.places)

-- numbers of one value are the same at any number of decimals that both have
pub same_at : (d t : Decimal) → d.places ≤ t.places → t.places ≤ 36 → units_of d ≡ units_of t → (q : ℕ) → t.places ≤ q → mantissa_at d q ≡ mantissa_at t q
same_at d t fewer few same q more =
    let split : 36 - d.places ≡ (t.places - d.places) + (36 - t.places) = omega arith in
    let scaled : d.mantissa *ℤ pos (10 ^ (t.places - d.places)) *ℤ pos (10 ^ (36 - t.places)) ≡ t.mantissa *ℤ pos (10 ^ (36 - t.places)) =
    mul-mul d.mantissa (10 ^ (t.places - d.places)) (10 ^ (36 - t.places)) ∙ ap (λ (n : ℕ). d.mantissa *ℤ pos n) (sym (pow-add 10 (t.places - d.places) (36 - t.places)) ∙ ap (λ (k : ℕ). 10 ^ k) (sym split)) ∙ same in
    let is = cancel (d.mantissa *ℤ pos (10 ^ (t.places - d.places))) t.mantissa (10 ^ (36 - t.places)) (pow_ten_positive (36 - t.places)) scaled in
    let further : q - d.places ≡ (t.places - d.places) + (q - t.places) = omega arith in
    ap (λ (k : ℕ). d.mantissa *ℤ pos (10 ^ k)) further ∙ ap (λ (n : ℕ). d.mantissa *ℤ pos n) (pow-add 10 (t.places - d.places) (q - t.places))
    ∙ sym (mul-mul d.mantissa (10 ^ (t.places - d.places)) (10 ^ (q - t.places))) ∙ ap (λ (m : ℤ). m *ℤ pos (10 ^ (q - t.places))) is
