-- A byte order mark at the front of a text.
use Rattle.std.proofs.Common.{◌≡◌, ℕ, ◌==◌, ◌≤◌, nat_eq, Bool, true, false, ◌&&◌, List, [], ◌∷◌, length, drop, refl, sym, ◌∙◌, arith}
use Rattle.std.proofs.lemmas.Bool.{false≢true}
use Rattle.std.proofs.lemmas.Bool.Decides.{nat_tests}
use Rattle.csv.specs.Reading.{is_bom, strip_bom}
use Rattle.bank_explanations.specs.Places.{begins_mark}

same_test : (a b : ℕ) → nat_eq a b ≡ (b == a)
same_test a b = grind (arith, nat_tests)

three : (x y z : Bool) → (x && (y && (z && true))) ≡ (x && y && z)
three true true true = refl
three true true false = refl
three true false z = refl
three false y z = refl

mark_is : (a b c : ℕ) (rest : List ℕ) → begins_mark (a ∷ b ∷ c ∷ rest) ≡ is_bom a b c
mark_is a b c rest = rw (same_test 239 a, same_test 187 b, same_test 191 c) (three (a == 239) (b == 187) (c == 191))

no_second : (x : Bool) → (x && false) ≡ true → false ≡ true
no_second true e = e
no_second false e = e

no_third : (x y : Bool) → (x && (y && false)) ≡ true → false ≡ true
no_third true true e = e
no_third true false e = e
no_third false y e = e

pub mark_some : (text : List ℕ) → begins_mark text ≡ true → 3 ≤ length text
mark_some [] e = absurd (false≢true e)
mark_some (a ∷ []) e = absurd (false≢true (no_second (nat_eq 239 a) e))
mark_some (a ∷ b ∷ []) e = absurd (false≢true (no_third (nat_eq 239 a) (nat_eq 187 b) e))
mark_some (a ∷ b ∷ c ∷ rest) e = omega arith

cut_by : (a b c : ℕ) (rest : List ℕ) → is_bom a b c ≡ true → strip_bom (a ∷ b ∷ c ∷ rest) ≡ rest
unfolding strip_bom
cut_by a b c rest e = rw e refl

kept_by : (a b c : ℕ) (rest : List ℕ) → is_bom a b c ≡ false → strip_bom (a ∷ b ∷ c ∷ rest) ≡ a ∷ b ∷ c ∷ rest
unfolding strip_bom
kept_by a b c rest e = rw e refl

pub mark_cut : (text rest : List ℕ) → begins_mark text ≡ true → rest ≡ drop 3 text → rest ≡ strip_bom text
mark_cut [] rest e cut = absurd (false≢true e)
mark_cut (a ∷ []) rest e cut = absurd (false≢true (no_second (nat_eq 239 a) e))
mark_cut (a ∷ b ∷ []) rest e cut = absurd (false≢true (no_third (nat_eq 239 a) (nat_eq 187 b) e))
mark_cut (a ∷ b ∷ c ∷ more) rest e cut = cut ∙ sym (cut_by a b c more (sym (mark_is a b c more) ∙ e))

pub mark_none : (text : List ℕ) → begins_mark text ≡ false → text ≡ strip_bom text
unfolding strip_bom
mark_none [] e = refl
mark_none (a ∷ []) e = refl
mark_none (a ∷ b ∷ []) e = refl
mark_none (a ∷ b ∷ c ∷ more) e = sym (kept_by a b c more (sym (mark_is a b c more) ∙ e))
