-- Items of lists, and lists of which one item more is known.
use Rattle.std.proofs.Common.{◌≡◌, ℕ, Bool, true, false, cond, List, [], ◌∷◌, ◌++◌, map, filter, Option, Some, None, ◌⊎◌, inl, inr, refl, sym, ap, subst, ◌∙◌}
use Rattle.std.specs.List.{flat_map, fold}

module _ {A : Type 0} where
  -- an item is one of a list
  abbrev pub In : A → List A → Type 0
  In x [] = ⊥
  In x (y ∷ ys) = (x ≡ y) ⊎ In x ys

  pub in_left : (x : A) (xs ys : List A) → In x xs → In x (xs ++ ys)
  in_left x [] ys h = absurd h
  in_left x (z ∷ xs) ys h = elim h [ inl same ↦ inl same | inr later ↦ inr (in_left x xs ys later) ]

  pub in_right : (x : A) (xs ys : List A) → In x ys → In x (xs ++ ys)
  in_right x [] ys h = h
  in_right x (z ∷ xs) ys h = inr (in_right x xs ys h)

  keep : (x y : A) (ys : List A) (b : Bool) → In x ys → In x (cond b (y ∷ ys) ys)
  keep x y ys true h = inr h
  keep x y ys false h = h

  pub in_kept : (p : A → Bool) (x : A) (xs : List A) → p x ≡ true → In x xs → In x (filter p xs)
  in_kept p x [] is h = absurd h
  in_kept p x (y ∷ ys) is h = elim h [
    | inl same ↦ subst (λ (b : Bool). In x (cond b (y ∷ filter p ys) (filter p ys))) (sym (ap p (sym same) ∙ is)) (inl same)
    | inr later ↦ keep x y (filter p ys) (p y) (in_kept p x ys is later)
  ]

  pub kept_passes : (p : A → Bool) (x : A) (xs : List A) → In x (filter p xs) → p x ≡ true
  kept_passes p x [] h = absurd h
  kept_passes p x (y ∷ ys) h =
      elim (p y) as (λ b. p y ≡ b → In x (cond b (y ∷ filter p ys) (filter p ys)) → p x ≡ true) [
        | true ↦ λ e m. elim m [ inl same ↦ ap p same ∙ e | inr later ↦ kept_passes p x ys later ]
        | false ↦ λ e m. kept_passes p x ys m
      ] refl h

  pub none_kept : (p : A → Bool) → ((x : A) → p x ≡ false) → (xs : List A) → filter p xs ≡ []
  none_kept p none [] = refl
  none_kept p none (x ∷ xs) = ap (λ (b : Bool). cond b (x ∷ filter p xs) (filter p xs)) (none x) ∙ none_kept p none xs

  pub filter-push : (p : A → Bool) (xs ys : List A) → filter p (xs ++ ys) ≡ filter p xs ++ filter p ys
  filter-push p [] ys = refl
  filter-push p (x ∷ xs) ys =
      elim (p x) as (λ b. cond b (x ∷ filter p (xs ++ ys)) (filter p (xs ++ ys)) ≡ cond b (x ∷ filter p xs) (filter p xs) ++ filter p ys) [
        | true ↦ ap (λ (t : List A). x ∷ t) (filter-push p xs ys)
        | false ↦ filter-push p xs ys
      ]

module _ {A B : Type 0} where
  pub map-push : (f : A → B) (xs : List A) (x : A) → map f (xs ++ x ∷ []) ≡ map f xs ++ f x ∷ []
  map-push f [] x = refl
  map-push f (y ∷ xs) x = ap (λ (t : List B). f y ∷ t) (map-push f xs x)

  pub fold-push : (f : B → A → B) (b : B) (xs : List A) (x : A) → fold f b (xs ++ x ∷ []) ≡ f (fold f b xs) x
  fold-push f b [] x = refl
  fold-push f b (y ∷ xs) x = fold-push f (f b y) xs x
