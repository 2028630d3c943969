-- Euclid's algorithm finds the greatest common divisor.
use Rattle.std.proofs.Common.{◌≡◌, ℕ, zero, suc, ◌<◌, ◌≤◌, ◌%◌, Bool, true, false, cond, refl, sym, ap, subst, ◌∙◌, arith}
use Rattle.std.specs.Prelude.{◌==◌}
use Rattle.std.specs.Int.{IsGcd}
use Rattle.std.proofs.lemmas.Bool.Decides.{Decides-eqb}
use Rattle.std.proofs.lemmas.Nat.{mod_below}
use Rattle.std.proofs.lemmas.Nat.Gcd.{IsGcd-from_zero, IsGcd-from_mod, le_of_dvd}
use Rattle.std.proofs.Math.Nat.{pos_of_dvd_of_pos}
use Rattle.prices.specs.Fractions.{gcd_within, gcd}
use Rattle.prices.proofs.Texts.{true≢false}

is_zero : (b : ℕ) → (b == 0) ≡ true → b ≡ 0
is_zero b h = (Decides-eqb b 0).0 h

above_zero : (b : ℕ) → (b == 0) ≡ false → 0 < b
above_zero zero h = absurd (true≢false h)
above_zero (suc b) h = omega arith

rest_below : (a b n : ℕ) → (b == 0) ≡ false → b ≤ suc n → a % b ≤ n
rest_below a b n e le = let lt : a % b < b = mod_below a b (above_zero b e) in omega arith

none_left : (b : ℕ) → b ≤ 0 → (b == 0) ≡ true
none_left zero h = refl
none_left (suc b) h = absurd (not_left b h)
  where
    not_left : (b : ℕ) → suc b ≤ 0 → ⊥
    not_left b h = omega arith

-- more divisions change nothing
enough : (m n a b : ℕ) → b ≤ m → b ≤ n → gcd_within m a b ≡ gcd_within n a b
enough zero zero a b p q = refl
enough zero (suc n) a b p q = sym (ap (λ (t : Bool). cond t a (gcd_within n b (a % b))) (none_left b p))
enough (suc m) zero a b p q = ap (λ (t : Bool). cond t a (gcd_within m b (a % b))) (none_left b q)
enough (suc m) (suc n) a b p q = elim (b == 0) as (λ t. (b == 0) ≡ t → cond t a (gcd_within m b (a % b)) ≡ cond t a (gcd_within n b (a % b))) [
  | true ↦ λ e. refl
  | false ↦ λ e. enough m n b (a % b) (rest_below a b m e p) (rest_below a b n e q)
] refl

is_gcd_within : (n a b : ℕ) → b ≤ n → IsGcd a b (gcd_within n a b)
is_gcd_within zero a b le = IsGcd-from_zero a b (is_zero b (none_left b le))
is_gcd_within (suc n) a b le = elim (b == 0) as (λ t. (b == 0) ≡ t → IsGcd a b (cond t a (gcd_within n b (a % b)))) [
  | true ↦ λ e. IsGcd-from_zero a b (is_zero b e)
  | false ↦ λ e. IsGcd-from_mod a b _ (is_gcd_within n b (a % b) (rest_below a b n e le))
] refl

not_zero : (b : ℕ) → (suc b == 0) ≡ false
not_zero b = elim (suc b == 0) as (λ t. (suc b == 0) ≡ t → t ≡ false) [
  | true ↦ λ e. absurd (none b (is_zero (suc b) e))
  | false ↦ λ e. refl
] refl
  where
    none : (b : ℕ) → suc b ≡ 0 → ⊥
    none b h = omega arith

-- one division
pub gcd_step : (a b : ℕ) → 0 < b → gcd b (a % b) ≡ gcd a b
unfolding gcd
gcd_step a zero h = absurd (none h)
  where
    none : 0 < 0 → ⊥
    none h = omega arith
gcd_step a (suc b) h = let lt : a % suc b < suc b = mod_below a (suc b) h in
    enough (a % suc b) b (suc b) (a % suc b) (omega arith) (omega arith)
    ∙ sym (ap (λ (t : Bool). cond t a (gcd_within b (suc b) (a % suc b))) (not_zero b))

pub gcd_end : (a b : ℕ) → b ≡ 0 → gcd a b ≡ a
unfolding gcd
gcd_end a b h = subst (λ (x : ℕ). gcd_within x a x ≡ a) (sym h) refl

pub gcd_is : (a b : ℕ) → IsGcd a b (gcd a b)
unfolding gcd
gcd_is a b = is_gcd_within b a b (omega arith)

pub gcd_below : (a b : ℕ) → 0 < b → gcd a b ≤ b
gcd_below a b h = le_of_dvd h (gcd_is a b).1

pub gcd_above : (a b : ℕ) → 0 < b → 0 < gcd a b
gcd_above a b h = pos_of_dvd_of_pos (gcd_is a b).1 h
