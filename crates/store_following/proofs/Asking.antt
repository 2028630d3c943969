-- What is known of two disks whose lengths were asked for.
use Rattle.std.proofs.Common.{◌≡◌, inl, inr, ⊎_elim, ℕ, ◌+◌, ◌-◌, ◌^◌, ◌<◌, ◌==◌, ◌&&◌, min, Bool, true, false, List, [], ◌∷◌, length, Option, Some, None, IfSome, refl, sym, subst, arith}
use Rattle.std.proofs.lemmas.Bool.{cases_lt}
use Rattle.std.proofs.lemmas.Bool.Decides.{nat_tests}
use Rattle.hl_base.specs.Causes.{Rose}
use Rattle.store_following.specs.Lengths.{IsEmpty}
use Rattle.store_following.specs.Replicas.{AreEmpty}

is_zero : (n : ℕ) → n ≡ 0 → (n == 0) ≡ true
is_zero n is = grind (arith, nat_tests)

not_zero : (n : ℕ) → 0 < n → (n == 0) ≡ false
not_zero n some = grind (arith, nat_tests)

filled : (x : ℕ) (l : List ℕ) → x ∷ l ≡ [] → ⊥
filled x l e = cc

-- a file is empty where its length is 0
pub empty_of : (o : Option (List ℕ)) (n : ℕ) → IfSome o (λ file. n ≡ length file) → IfSome o (IsEmpty (n == 0))
empty_of None n is = tt
empty_of (Some []) n is = subst (λ (b : Bool). IsEmpty b []) (sym (is_zero n is)) refl
empty_of (Some (x ∷ l)) n is =
    let some : 0 < n = omega (arith, is) in
    subst (λ (b : Bool). IsEmpty b (x ∷ l)) (sym (not_zero n some)) (filled x l)

both_by : (a b : Bool) (f s : List ℕ) → IsEmpty a f → IsEmpty b s → AreEmpty (a && b) f s
both_by true true f s first second = (first, second)
both_by true false f s first second = λ both. second both.1
both_by false true f s first second = λ both. first both.0
both_by false false f s first second = λ both. first both.0

-- both are
pub both_empty : (a b : Bool) (p q : Option (List ℕ)) → IfSome p (IsEmpty a) → IfSome q (IsEmpty b) → (f s : List ℕ) → p ≡ Some f → q ≡ Some s → AreEmpty (a && b) f s
both_empty a b p q first second f s is_first is_second =
    both_by a b f s (subst (λ (o : Option (List ℕ)). IfSome o (IsEmpty a)) is_first first) (subst (λ (o : Option (List ℕ)). IfSome o (IsEmpty b)) is_second second)

-- a count of two disks rises with that of one
pub rose_first : (a c b : ℕ) → Rose a c → Rose (min (a + b) (2 ^ 64 - 1)) (min (c + b) (2 ^ 64 - 1))
rose_first a c b (inl less) = ⊎_elim (λ small. inl (omega (arith, less, small))) (λ big. inr (omega (arith, less, big))) (cases_lt (a + b) (2 ^ 64 - 1))
rose_first a c b (inr last) = inr (omega (arith, last))

pub rose_second : (a c b d : ℕ) → c ≡ a → Rose b d → Rose (min (a + b) (2 ^ 64 - 1)) (min (c + d) (2 ^ 64 - 1))
rose_second a c b d same (inl less) = ⊎_elim (λ small. inl (omega (arith, same, less, small))) (λ big. inr (omega (arith, same, less, big))) (cases_lt (a + b) (2 ^ 64 - 1))
rose_second a c b d same (inr last) = inr (omega (arith, last))
