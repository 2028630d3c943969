-- The first of a list that passes, when it is walked item by item.
use Rattle.std.proofs.Common.{◌≡◌, ℕ, ◌+◌, ◌<◌, ◌≤◌, Bool, true, false, cond, List, [], ◌∷◌, ◌++◌, length, get_or, drop, map, Option, Some, None, refl, ap, ◌∙◌}
use Rattle.std.specs.List.{find, flat_map}
use Rattle.std.specs.Option.{option_map, option_or}
use Rattle.std.proofs.lemmas.List.{drop_all}
use Rattle.std.proofs.lemmas.List.Folds.{find-append}
use Rattle.query_terms.proofs.Walks.{left_here}

module _ {A : Type 0} (p : A → Bool) (xs : List A) (i : ℕ) (whole : Option A) (so_far : whole ≡ find p (drop i xs)) where
  pub item_here : (x : A) → i < length xs → x ≡ get_or xs i x → p x ≡ true → whole ≡ Some x
  item_here x lt is t =
      so_far ∙ ap (find p) (left_here xs i x lt is) ∙ ap (λ b. cond b (Some x) (find p (drop (i + 1) xs))) t

  pub item_more : (x : A) → i < length xs → x ≡ get_or xs i x → p x ≡ false → whole ≡ find p (drop (i + 1) xs)
  item_more x lt is t =
      so_far ∙ ap (find p) (left_here xs i x lt is) ∙ ap (λ b. cond b (Some x) (find p (drop (i + 1) xs))) t

  pub item_none : length xs ≤ i → whole ≡ None
  item_none le = so_far ∙ ap (find p) (drop_all i xs le)

module _ {X A : Type 0} (p : A → Bool) (f : X → A) (xs : List X) (i : ℕ) (whole : Option A) (so_far : whole ≡ find p (map f (drop i xs))) where
  pub named_here : (x : X) → i < length xs → x ≡ get_or xs i x → p (f x) ≡ true → whole ≡ Some (f x)
  named_here x lt is t =
      so_far ∙ ap (λ l. find p (map f l)) (left_here xs i x lt is) ∙ ap (λ b. cond b (Some (f x)) (find p (map f (drop (i + 1) xs)))) t

  pub named_more : (x : X) → i < length xs → x ≡ get_or xs i x → p (f x) ≡ false → whole ≡ find p (map f (drop (i + 1) xs))
  named_more x lt is t =
      so_far ∙ ap (λ l. find p (map f l)) (left_here xs i x lt is) ∙ ap (λ b. cond b (Some (f x)) (find p (map f (drop (i + 1) xs)))) t

  pub named_none : length xs ≤ i → whole ≡ None
  named_none le = so_far ∙ ap (λ l. find p (map f l)) (drop_all i xs le)

module _ {A : Type 0} (p : A → Bool) where
  -- of two lists
  pub of_two_first : (xs ys : List A) (a : A) → find p xs ≡ Some a → find p (xs ++ ys) ≡ Some a
  of_two_first xs ys a h = find-append p xs ys ∙ ap (λ o. option_or o (find p ys)) h

  pub of_two_second : (xs ys : List A) → find p xs ≡ None → find p (xs ++ ys) ≡ find p ys
  of_two_second xs ys h = find-append p xs ys ∙ ap (λ o. option_or o (find p ys)) h

  -- of three
  pub of_three_first : (xs ys zs : List A) (a : A) → find p xs ≡ Some a → find p (xs ++ ys ++ zs) ≡ Some a
  of_three_first xs ys zs a h = of_two_first (xs ++ ys) zs a (of_two_first xs ys a h)

  pub of_three_second : (xs ys zs : List A) (a : A) → find p xs ≡ None → find p ys ≡ Some a → find p (xs ++ ys ++ zs) ≡ Some a
  of_three_second xs ys zs a none h = of_two_first (xs ++ ys) zs a (of_two_second xs ys none ∙ h)

  pub of_three_third : (xs ys zs : List A) → find p xs ≡ None → find p ys ≡ None → find p (xs ++ ys ++ zs) ≡ find p zs
  of_three_third xs ys zs none second = of_two_second (xs ++ ys) zs (of_two_second xs ys none ∙ second)

module _ {X A : Type 0} (p : A → Bool) (f : X → List A) (xs : List X) (i : ℕ) (whole : Option A) (so_far : whole ≡ find p (flat_map f (drop i xs))) where
  pub part_here : (x : X) (a : A) → i < length xs → x ≡ get_or xs i x → find p (f x) ≡ Some a → whole ≡ Some a
  part_here x a lt is h =
      so_far ∙ ap (λ l. find p (flat_map f l)) (left_here xs i x lt is) ∙ of_two_first p (f x) (flat_map f (drop (i + 1) xs)) a h

  pub part_more : (x : X) → i < length xs → x ≡ get_or xs i x → find p (f x) ≡ None → whole ≡ find p (flat_map f (drop (i + 1) xs))
  part_more x lt is h =
      so_far ∙ ap (λ l. find p (flat_map f l)) (left_here xs i x lt is) ∙ of_two_second p (f x) (flat_map f (drop (i + 1) xs)) h

  pub part_none : length xs ≤ i → whole ≡ None
  part_none le = so_far ∙ ap (λ l. find p (flat_map f l)) (drop_all i xs le)

-- names in a line are found as they are by themselves
pub find_in_line : (p : List ℕ → Bool) (line : ℕ) (names : List (List ℕ)) → find (λ (u : ℕ × List ℕ). p u.1) (map (λ (n : List ℕ). (line, n)) names) ≡ option_map (λ (n : List ℕ). (line, n)) (find p names)
find_in_line p line [] = refl
find_in_line p line (n ∷ names) =
    elim (p n) as (λ b. cond b (Some (line, n)) (find (λ (u : ℕ × List ℕ). p u.1) (map (λ (m : List ℕ). (line, m)) names)) ≡ option_map (λ (m : List ℕ). (line, m)) (cond b (Some n) (find p names))) [
      | true ↦ refl
      | false ↦ find_in_line p line names
    ]
