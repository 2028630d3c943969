-- Numbers without zeros at the end of their decimals.
use Rattle.std.proofs.Common.{◌≡◌, ℕ, zero, suc, ℤ, pos, negsuc, ◌-◌, ◌*◌, ◌^◌, ◌≤◌, ◌*ℤ◌, neg_ℤ, refl, sym, ◌∙◌, arith}
use Rattle.std.proofs.lemmas.Int.{ints}
use Rattle.hl_num.specs.Decimal.{Decimal, units_of, negated, IsTrimmed}
use Rattle.hl_num.proofs.DecimalLemmas.{neg-mul}
use Rattle.hl_num.proofs.Trimmed.{same_trimmed, trimmed-units, trimmed-places, trimmed-is}
use Rattle.book_care.specs.Lines.{shortest}

by_one : (z : ℤ) → z *ℤ pos (10 ^ (36 - 36)) ≡ z
by_one z = omega (arith, ints)

pub shortest-few : (u : ℤ) → (shortest u).places ≤ 36
unfolding shortest
shortest-few u = trimmed-places u 36

pub shortest-trimmed : (u : ℤ) → IsTrimmed (shortest u)
unfolding shortest
shortest-trimmed u = trimmed-is u 36

pub units_shortest : (u : ℤ) → units_of (shortest u) ≡ u
unfolding shortest
units_shortest u = trimmed-units u 36 (omega arith) ∙ by_one u

back : (n : ℕ) → pos n ≡ neg_ℤ (neg_ℤ (pos n))
back zero = refl
back (suc n) = refl

negated-mul : (m : ℤ) (n : ℕ) → neg_ℤ m *ℤ pos n ≡ neg_ℤ (m *ℤ pos n)
negated-mul (pos k) n = neg-mul k n
negated-mul (negsuc k) n = back (suc k * n)

pub units_negated : (d : Decimal) → units_of (negated d) ≡ neg_ℤ (units_of d)
units_negated d = negated-mul d.mantissa (10 ^ (36 - d.places))
