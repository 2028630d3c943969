-- What is said, one after another.
use Rattle.std.proofs.Common.{◌≡◌, ℕ, zero, suc, ◌+◌, ◌<◌, List, [], ◌∷◌, ◌++◌, length, get_or, take, drop, sym, ap, subst, ◌∙◌, arith}
use Rattle.std.proofs.lemmas.List.{drop_more}
use Rattle.std.specs.List.{fold}

pub fold-more : {A B : Type 0} (f : B → A → B) (xs : List A) (i : ℕ) (x : A) (acc : B) → i < length xs → x ≡ get_or xs i x → fold f acc (drop i xs) ≡ fold f (f acc x) (drop (i + 1) xs)
fold-more {A = A} f xs i x acc lt e = ap (fold f acc) (drop_more xs i x lt ∙ ap (λ (y : A). y ∷ drop (i + 1) xs) (sym e))

further : {A : Type 0} (xs : List A) (i : ℕ) (x : A) → i < length xs → x ≡ get_or xs i x → take i xs ++ x ∷ [] ≡ take (suc i) xs
further [] i x lt e = absurd (omega arith)
further {A = A} (y ∷ ys) zero x lt e = ap (λ (z : A). z ∷ []) e
further {A = A} (y ∷ ys) (suc i) x lt e = ap (λ (l : List A). y ∷ l) (further ys i x (omega arith) e)

pub take-further : {A : Type 0} (xs : List A) (i : ℕ) (x : A) → i < length xs → x ≡ get_or xs i x → take i xs ++ x ∷ [] ≡ take (i + 1) xs
take-further xs i x lt e = let one : suc i ≡ i + 1 = omega arith in subst (λ (k : ℕ). take i xs ++ x ∷ [] ≡ take k xs) one (further xs i x lt e)
