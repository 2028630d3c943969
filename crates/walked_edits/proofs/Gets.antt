-- Items of a list by their numbers.
use Rattle.std.proofs.Common.{◌≡◌, ℕ, zero, suc, ◌<◌, List, [], ◌∷◌, ◌++◌, length, set, slice_get, Some, refl, sym, ap, subst, arith}
use Rattle.std.specs.List.{AllByRecursion}
use Rattle.std.proofs.lemmas.Option.{none-some, same_Some}

module _ {X : Type 0} where
  pub get_set : (xs : List X) (n : ℕ) (x : X) → n < length xs → slice_get (set xs n x) n ≡ Some x
  get_set [] n x h = absurd (omega (arith, h))
  get_set (y ∷ ys) zero x h = refl
  get_set (y ∷ ys) (suc n) x h = get_set ys n x (omega (arith, h))

  pub get_other : (xs : List X) (n m : ℕ) (x : X) → (n ≡ m → ⊥) → slice_get (set xs n x) m ≡ slice_get xs m
  get_other [] n m x apart = refl
  get_other (y ∷ ys) zero zero x apart = absurd (apart refl)
  get_other (y ∷ ys) zero (suc m) x apart = refl
  get_other (y ∷ ys) (suc n) zero x apart = refl
  get_other (y ∷ ys) (suc n) (suc m) x apart = get_other ys n m x (λ e. apart (ap suc e))

  -- what is there already
  pub set_there : (xs : List X) (n : ℕ) (x : X) → slice_get xs n ≡ Some x → set xs n x ≡ xs
  set_there [] n x h = refl
  set_there (y ∷ ys) zero x h = ap (λ (z : X). z ∷ ys) (sym (same_Some y x h))
  set_there (y ∷ ys) (suc n) x h = ap (λ (zs : List X). y ∷ zs) (set_there ys n x h)

  pub get_front : (xs : List X) (x : X) (n : ℕ) → n < length xs → slice_get (xs ++ x ∷ []) n ≡ slice_get xs n
  get_front [] x n h = absurd (omega (arith, h))
  get_front (y ∷ ys) x zero h = refl
  get_front (y ∷ ys) x (suc n) h = get_front ys x n (omega (arith, h))

  pub all_set : (P : X → Type 0) (xs : List X) (n : ℕ) (x : X) → AllByRecursion P xs → P x → AllByRecursion P (set xs n x)
  all_set P [] n x h p = tt
  all_set P (y ∷ ys) zero x h p = (p, h.1)
  all_set P (y ∷ ys) (suc n) x h p = (h.0, all_set P ys n x h.1 p)

  pub all_got : (P : X → Type 0) (xs : List X) (n : ℕ) (x : X) → AllByRecursion P xs → slice_get xs n ≡ Some x → P x
  all_got P [] n x h got = absurd (none-some x got)
  all_got P (y ∷ ys) zero x h got = subst P (same_Some y x got) h.0
  all_got P (y ∷ ys) (suc n) x h got = all_got P ys n x h.1 got
