-- Texts that are the same or differ, and answers that are there or not.
use Rattle.std.proofs.Common.{◌≡◌, ℕ, ◌≤◌, arith, Bool, true, false, ◌&&◌, List, Option, Some, None, ◌⊎◌, inl, inr, refl, sym, ap, ◌∙◌}
use Rattle.std.specs.Prelude.{is_some, nat_le}
use Rattle.std.specs.Ordering.{nat_cmp}
use Rattle.std.specs.Cmp.Lexicographic.{slice_cmp}
use Rattle.std.specs.Str.{bytes_eq}
use Rattle.std.specs.FinMap.{IsAntisymmetric, slice_cmp-IsAntisymmetric, nat_cmp-IsAntisymmetric}
use Rattle.std.proofs.lemmas.Bool.Decides.{nat_tests}
use Rattle.std.proofs.lemmas.Slice.Eq.{bytes_eq-Decides}

-- only equal texts tie
pub text_ties : IsAntisymmetric (slice_cmp nat_cmp)
text_ties = slice_cmp-IsAntisymmetric nat_cmp-IsAntisymmetric

pub same_text : (a b : List ℕ) → bytes_eq a b ≡ true → a ≡ b
same_text a b h = (bytes_eq-Decides a b).0 h

pub equal_text : (a b : List ℕ) → a ≡ b → bytes_eq a b ≡ true
equal_text a b h = (bytes_eq-Decides a b).1 h

-- a test is true or false
pub told : (b : Bool) → (b ≡ true) ⊎ (b ≡ false)
told true = inl refl
told false = inr refl

pub true≢false : true ≡ false → ⊥
true≢false h = cc

pub both_first : (a b : Bool) → (a && b) ≡ true → a ≡ true
both_first true b h = refl
both_first false b h = absurd (true≢false (sym h))

pub both_second : (a b : Bool) → (a && b) ≡ true → b ≡ true
both_second true b h = h
both_second false b h = absurd (true≢false (sym h))

pub both_true : (a b : Bool) → a ≡ true → b ≡ true → (a && b) ≡ true
both_true a b p q = ap (λ x. x && b) p ∙ q

-- what is there
pub there : {X : Type 0} (o : Option X) → is_some o ≡ true → (x : X) × (o ≡ Some x)
there None h = absurd (true≢false (sym h))
there (Some x) h = (x, refl)

-- the test of `≤`
pub le_from : (m n : ℕ) → nat_le m n ≡ true → m ≤ n
le_from m n h = grind (arith, nat_tests)

pub le_to : (m n : ℕ) → m ≤ n → nat_le m n ≡ true
le_to m n h = grind (arith, nat_tests)
