-- A walk along two lists whose images are cells, by places.
use Rattle.std.proofs.Common.{◌≡◌, ℕ, zero, suc, ◌+◌, ◌<◌, ◌≤◌, List, [], ◌∷◌, ◌++◌, map, length, get_or, take, drop, inl, inr, refl, sym, ap, subst, ◌∙◌, arith}
use Rattle.std.proofs.lemmas.Bool.{cases_lt}
use Rattle.std.proofs.lemmas.List.{drop_more, map-append, take-append-drop}
use Rattle.std.specs.declared.cmp.Ordering.TheVariants.{Less, Equal, Greater}
use Rattle.live_index.specs.Cells.{Cell, key_cmp, lesser_of, HasPushedSum}
use Rattle.live_index.proofs.CellLaws.{Joining, join-less, join-greater, join-equal}

module _ {A : Type 0} (f : A → Cell) where
  pub lesser-inside : (xs : List A) (i : ℕ) (others : List Cell) → lesser_of (map f (drop i xs)) others ≡ Less → i < length xs
  lesser-inside [] zero others e = absurd (differs e)
    where
      differs : Greater ≡ Less → ⊥
      differs e = cc
  lesser-inside [] (suc i) others e = absurd (differs e)
    where
      differs : Greater ≡ Less → ⊥
      differs e = cc
  lesser-inside (x ∷ xs) zero others e = omega arith
  lesser-inside (x ∷ xs) (suc i) others e = omega (arith, lesser-inside xs i others e)

  pub equal-inside : (xs : List A) (i : ℕ) (others : List Cell) → lesser_of (map f (drop i xs)) others ≡ Equal → i < length xs
  equal-inside [] zero others e = absurd (differs e)
    where
      differs : Greater ≡ Equal → ⊥
      differs e = cc
  equal-inside [] (suc i) others e = absurd (differs e)
    where
      differs : Greater ≡ Equal → ⊥
      differs e = cc
  equal-inside (x ∷ xs) zero others e = omega arith
  equal-inside (x ∷ xs) (suc i) others e = omega (arith, equal-inside xs i others e)

  pub nothing-left : (xs : List A) (i : ℕ) → length xs ≤ i → map f (drop i xs) ≡ []
  nothing-left [] zero h = refl
  nothing-left [] (suc i) h = refl
  nothing-left (x ∷ xs) zero h = absurd (omega arith)
  nothing-left (x ∷ xs) (suc i) h = nothing-left xs i (omega arith)

  -- what is left from a place on begins with the item there
  pub rest-at : (xs : List A) (i : ℕ) (x : A) → i < length xs → x ≡ get_or xs i x → map f (drop i xs) ≡ f x ∷ map f (drop (i + 1) xs)
  rest-at xs i x lt e = ap (map f) (drop_more xs i x lt) ∙ ap (λ (y : A). f y ∷ map f (drop (i + 1) xs)) (sym e)

  left-alone : (cells : List Cell) → lesser_of cells [] ≡ Equal → ⊥
  left-alone [] e = cc
  left-alone (cell ∷ cells) e = cc

  pub equal-inside-other : (cells : List Cell) (ys : List A) (j : ℕ) → lesser_of cells (map f (drop j ys)) ≡ Equal → j < length ys
  equal-inside-other cells ys j e =
      elim (cases_lt j (length ys)) [
        | inl lt ↦ lt
        | inr ge ↦ absurd (left-alone cells (ap (lesser_of cells) (sym (nothing-left ys j ge)) ∙ e))
      ]

  not-greater : (xs : List A) (i : ℕ) → i < length xs → lesser_of (map f (drop i xs)) [] ≡ Greater → ⊥
  not-greater [] i lt e = absurd (omega arith)
  not-greater (x ∷ xs) zero lt e = cc
  not-greater (x ∷ xs) (suc i) lt e = not-greater xs i (omega arith) e

  pub greater-inside : (xs ys : List A) (i j : ℕ) → (length xs ≤ i → j < length ys) → lesser_of (map f (drop i xs)) (map f (drop j ys)) ≡ Greater → j < length ys
  greater-inside xs ys i j some e =
      elim (cases_lt j (length ys)) [
        | inl lt ↦ lt
        | inr ge ↦
            elim (cases_lt i (length xs)) [
              | inl lt ↦ absurd (not-greater xs i lt (ap (lesser_of (map f (drop i xs))) (sym (nothing-left ys j ge)) ∙ e))
              | inr ge-first ↦ some ge-first
            ]
      ]

  -- which of two lists has the lesser key next
  pub less-of : (xs ys : List A) (i j : ℕ) → i < length xs → length ys ≤ j → Less ≡ lesser_of (map f (drop i xs)) (map f (drop j ys))
  less-of xs ys i j lt h = is xs i lt ∙ ap (λ (t : List Cell). lesser_of (map f (drop i xs)) t) (sym (nothing-left ys j h))
    where
      is : (xs : List A) (i : ℕ) → i < length xs → Less ≡ lesser_of (map f (drop i xs)) []
      is [] i lt = absurd (omega arith)
      is (x ∷ xs) zero lt = refl
      is (x ∷ xs) (suc i) lt = is xs i (omega arith)

  pub order-of : (xs ys : List A) (i j : ℕ) (x y : A) → i < length xs → j < length ys → x ≡ get_or xs i x → y ≡ get_or ys j y → key_cmp (f x).0 (f y).0 ≡ lesser_of (map f (drop i xs)) (map f (drop j ys))
  order-of xs ys i j x y lt within e g = λ k. lesser_of (sym (rest-at xs i x lt e) k) (sym (rest-at ys j y within g) k)

  -- an item more of the walk
  pub walk-less : (one two : List Cell) (xs ys done new : List A) (i j : ℕ) (x y : A) → i < length xs → x ≡ get_or xs i x → f y ≡ f x → new ≡ done ++ y ∷ [] → lesser_of (map f (drop i xs)) (map f (drop j ys)) ≡ Less → Joining one two (map f done) (map f (drop i xs)) (map f (drop j ys)) → Joining one two (map f new) (map f (drop (i + 1) xs)) (map f (drop j ys))
  walk-less one two xs ys done new i j x y lt e own put less so_far =
      let rest = rest-at xs i x lt e in
      let whole : map f new ≡ map f done ++ f x ∷ [] = ap (map f) put ∙ map-append f done (y ∷ []) ∙ ap (λ (c : Cell). map f done ++ c ∷ []) own in
      let P : List Cell → Type 0 = λ t. Joining one two t (map f (drop (i + 1) xs)) (map f (drop j ys)) in
      let Q : List Cell → Type 0 = λ t. Joining one two (map f done) t (map f (drop j ys)) in
      subst P (sym whole) (join-less one two (map f done) (f x) (map f (drop (i + 1) xs)) (map f (drop j ys)) (ap (λ (t : List Cell). lesser_of t (map f (drop j ys))) (sym rest) ∙ less) (subst Q rest so_far))

  pub walk-greater : (one two : List Cell) (xs ys done new : List A) (i j : ℕ) (x y : A) → j < length ys → x ≡ get_or ys j x → f y ≡ f x → new ≡ done ++ y ∷ [] → lesser_of (map f (drop i xs)) (map f (drop j ys)) ≡ Greater → Joining one two (map f done) (map f (drop i xs)) (map f (drop j ys)) → Joining one two (map f new) (map f (drop i xs)) (map f (drop (j + 1) ys))
  walk-greater one two xs ys done new i j x y lt e own put greater so_far =
      let rest = rest-at ys j x lt e in
      let whole : map f new ≡ map f done ++ f x ∷ [] = ap (map f) put ∙ map-append f done (y ∷ []) ∙ ap (λ (c : Cell). map f done ++ c ∷ []) own in
      let P : List Cell → Type 0 = λ t. Joining one two t (map f (drop i xs)) (map f (drop (j + 1) ys)) in
      let Q : List Cell → Type 0 = λ t. Joining one two (map f done) (map f (drop i xs)) t in
      subst P (sym whole) (join-greater one two (map f done) (map f (drop i xs)) (f x) (map f (drop (j + 1) ys)) (ap (lesser_of (map f (drop i xs))) (sym rest) ∙ greater) (subst Q rest so_far))

  pub walk-equal : (one two : List Cell) (xs ys done new : List A) (i j : ℕ) (x y : A) → i < length xs → j < length ys → x ≡ get_or xs i x → y ≡ get_or ys j y → HasPushedSum (f x) (f y) (map f done) (map f new) → lesser_of (map f (drop i xs)) (map f (drop j ys)) ≡ Equal → Joining one two (map f done) (map f (drop i xs)) (map f (drop j ys)) → Joining one two (map f new) (map f (drop (i + 1) xs)) (map f (drop (j + 1) ys))
  walk-equal one two xs ys done new i j x y lt within e g pushed equal so_far =
      let rest = rest-at xs i x lt e in
      let others = rest-at ys j y within g in
      let Q : List Cell → Type 0 = λ t. Joining one two (map f done) t (map f (drop j ys)) in
      let R : List Cell → Type 0 = λ t. Joining one two (map f done) (f x ∷ map f (drop (i + 1) xs)) t in
      join-equal one two (map f done) (map f new) (f x) (map f (drop (i + 1) xs)) (f y) (map f (drop (j + 1) ys)) ((λ k. lesser_of (sym rest k) (sym others k)) ∙ equal) pushed (subst R others (subst Q rest so_far))

  -- what stands before an item, the item and what stands behind it
  pub made-of : (xs front back : List A) (i : ℕ) (left right : List Cell) (x y : A) → front ≡ take i xs → back ≡ drop i xs → left ≡ map f front → right ≡ map f (drop 1 back) → 0 < length back → x ≡ get_or back 0 x → f y ≡ f x → left ++ f y ∷ right ≡ map f xs
  made-of xs front back i left right x y e g of_front of_rest some is own =
      (λ k. of_front k ++ own k ∷ of_rest k)
      ∙ ap (λ (t : List Cell). map f front ++ t) (sym (rest-at back 0 x some is))
      ∙ sym (map-append f front back)
      ∙ ap (map f) ((λ k. e k ++ g k) ∙ take-append-drop i xs)
