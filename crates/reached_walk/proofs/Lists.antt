-- What holds of all items of a list, and of one of them.
use Rattle.std.proofs.Common.{◌≡◌, Bool, true, false, ◌&&◌, ◌||◌, ◌⊎◌, inl, inr, List, [], ◌∷◌, ◌++◌, refl, sym, ap, ◌∙◌}
use Rattle.std.specs.List.{list_all, list_any, AllByRecursion}
use Rattle.std.proofs.lemmas.Bool.{false≢true, or_cases}
use Rattle.std.proofs.lemmas.List.Folds.{list_any-append}
use Rattle.watchers.proofs.Tests.{and-both, and-first, and-second, or-first, or-left, or-right, or-second}
use Rattle.reached_walk.specs.Asks.{Has}

module _ {X : Type 0} where
  -- ---- all of them

  pub all-map : (P Q : X → Type 0) → ((x : X) → P x → Q x) → (xs : List X) → AllByRecursion P xs → AllByRecursion Q xs
  all-map P Q f [] h = tt
  all-map P Q f (x ∷ xs) h = (f x h.0, all-map P Q f xs h.1)

  pub all-zip : (P Q R : X → Type 0) → ((x : X) → P x → Q x → R x) → (xs : List X) → AllByRecursion P xs → AllByRecursion Q xs → AllByRecursion R xs
  all-zip P Q R f [] h k = tt
  all-zip P Q R f (x ∷ xs) h k = (f x h.0 k.0, all-zip P Q R f xs h.1 k.1)

  pub all-each : (P : X → Type 0) → ((x : X) → P x) → (xs : List X) → AllByRecursion P xs
  all-each P f [] = tt
  all-each P f (x ∷ xs) = (f x, all-each P f xs)

  pub all-join : (P : X → Type 0) (xs ys : List X) → AllByRecursion P xs → AllByRecursion P ys → AllByRecursion P (xs ++ ys)
  all-join P [] ys h k = k
  all-join P (x ∷ xs) ys h k = (h.0, all-join P xs ys h.1 k)

  pub all-left : (P : X → Type 0) (xs ys : List X) → AllByRecursion P (xs ++ ys) → AllByRecursion P xs
  all-left P [] ys h = tt
  all-left P (x ∷ xs) ys h = (h.0, all-left P xs ys h.1)

  pub all-right : (P : X → Type 0) (xs ys : List X) → AllByRecursion P (xs ++ ys) → AllByRecursion P ys
  all-right P [] ys h = h
  all-right P (x ∷ xs) ys h = all-right P xs ys h.1

  pub all-push : (P : X → Type 0) (xs : List X) (x : X) → AllByRecursion P xs → P x → AllByRecursion P (xs ++ x ∷ [])
  all-push P xs x h k = all-join P xs (x ∷ []) h (k, tt)

  pub all-last : (P : X → Type 0) (xs : List X) (x : X) → AllByRecursion P (xs ++ x ∷ []) → P x
  all-last P xs x h = (all-right P xs (x ∷ []) h).0

  pub all-true : (p : X → Bool) (xs : List X) → list_all p xs ≡ true → AllByRecursion (λ x. p x ≡ true) xs
  all-true p [] h = tt
  all-true p (x ∷ xs) h = (and-first (p x) (list_all p xs) h, all-true p xs (and-second (p x) (list_all p xs) h))

  pub true-all : (p : X → Bool) (xs : List X) → AllByRecursion (λ x. p x ≡ true) xs → list_all p xs ≡ true
  true-all p [] h = refl
  true-all p (x ∷ xs) h = and-both (p x) (list_all p xs) h.0 (true-all p xs h.1)

  -- ---- none of them

  pub none-all : (t : X → Bool) (xs : List X) → list_any t xs ≡ false → AllByRecursion (λ x. t x ≡ false) xs
  none-all t [] h = tt
  none-all t (x ∷ xs) h = (or-first (t x) (list_any t xs) h, none-all t xs (or-second (t x) (list_any t xs) h))

  -- ---- one of them

  -- one passes a test, and all are so
  pub pick : (P : X → Type 0) (t : X → Bool) (C : Type 0) → ((x : X) → P x → t x ≡ true → C) → (xs : List X) → AllByRecursion P xs → list_any t xs ≡ true → C
  pick P t C f [] h k = absurd (false≢true k)
  pick P t C f (x ∷ xs) h k =
      elim (or_cases (t x) (list_any t xs) k) as (λ _. C) [
        | inl e ↦ f x h.0 e
        | inr e ↦ pick P t C f xs h.1 e
      ]

  pub any-left : (t : X → Bool) (xs ys : List X) → list_any t xs ≡ true → list_any t (xs ++ ys) ≡ true
  any-left t xs ys h = list_any-append t xs ys ∙ or-left (list_any t xs) (list_any t ys) h

  pub any-right : (t : X → Bool) (xs ys : List X) → list_any t ys ≡ true → list_any t (xs ++ ys) ≡ true
  any-right t xs ys h = list_any-append t xs ys ∙ or-right (list_any t xs) (list_any t ys) h

  pub any-last : (t : X → Bool) (xs : List X) (x : X) → t x ≡ true → list_any t (xs ++ x ∷ []) ≡ true
  any-last t xs x h = any-right t xs (x ∷ []) (or-left (t x) false h)

  pub any-here : (t : X → Bool) (x : X) (xs : List X) → t x ≡ true → list_any t (x ∷ xs) ≡ true
  any-here t x xs h = or-left (t x) (list_any t xs) h

  pub any-later : (t : X → Bool) (x : X) (xs : List X) → list_any t xs ≡ true → list_any t (x ∷ xs) ≡ true
  any-later t x xs h = or-right (t x) (list_any t xs) h

  -- one is so, and all are so
  pub meet : (P Q : X → Type 0) (C : Type 0) → ((x : X) → P x → Q x → C) → (xs : List X) → AllByRecursion P xs → Has Q xs → C
  meet P Q C f [] h k = absurd k
  meet P Q C f (x ∷ xs) h (inl k) = f x h.0 k
  meet P Q C f (x ∷ xs) h (inr k) = meet P Q C f xs h.1 k

  pub has-any : (Q : X → Type 0) (t : X → Bool) → ((x : X) → Q x → t x ≡ true) → (xs : List X) → Has Q xs → list_any t xs ≡ true
  has-any Q t f [] k = absurd k
  has-any Q t f (x ∷ xs) (inl k) = or-left (t x) (list_any t xs) (f x k)
  has-any Q t f (x ∷ xs) (inr k) = or-right (t x) (list_any t xs) (has-any Q t f xs k)

  pub has-map : (P Q : X → Type 0) → ((x : X) → P x → Q x) → (xs : List X) → Has P xs → Has Q xs
  has-map P Q f [] k = k
  has-map P Q f (x ∷ xs) (inl k) = inl (f x k)
  has-map P Q f (x ∷ xs) (inr k) = inr (has-map P Q f xs k)

  pub has-left : (P : X → Type 0) (xs ys : List X) → Has P xs → Has P (xs ++ ys)
  has-left P [] ys k = absurd k
  has-left P (x ∷ xs) ys (inl k) = inl k
  has-left P (x ∷ xs) ys (inr k) = inr (has-left P xs ys k)

  pub has-right : (P : X → Type 0) (xs ys : List X) → Has P ys → Has P (xs ++ ys)
  has-right P [] ys k = k
  has-right P (x ∷ xs) ys k = inr (has-right P xs ys k)
