-- A stable sort by a total order gives what insertion gives.
use Rattle.std.proofs.Common.{◌≡◌, ℕ, zero, suc, ◌+◌, ◌<◌, ◌≤◌, Bool, true, false, ◌&&◌, not, cond, filter, List, [], ◌∷◌, length, map, get_or, refl, sym, ap, ◌∙◌, arith}
use Rattle.std.specs.declared.cmp.Ordering.{Ordering}
use Rattle.std.specs.List.{AllByRecursion}
use Rattle.std.specs.List.Sorted.{IsSorted, IsSortedBy, IsStable, ties}
use Rattle.std.specs.Ordering.{is_lt}
use Rattle.std.specs.Cmp.{IsTotalOrder, IsStrictWeakOrder}
use Rattle.std.proofs.lemmas.Bool.{false≢true}
use Rattle.std.proofs.lemmas.Cmp.{tied_itself}
use Rattle.std.proofs.lemmas.List.Sorted.{ranks_by, sorted_far}
use Rattle.balance_rows.specs.Orders.{placed, sorted}

both_not : (a b : Bool) → (not a && not b) ≡ true → (a ≡ false) × (b ≡ false)
both_not true b h = absurd (false≢true h)
both_not false true h = absurd (false≢true h)
both_not false false h = (refl, refl)

not_first : (a b : Bool) → a ≡ true → (not a && not b) ≡ false
not_first a b h = ap (λ (x : Bool). not x && not b) h

module _ {X : Type 0} {R : X → X → Ordering} (o : IsTotalOrder R) where
  abbrev lt : X → X → Bool
  lt x y = is_lt (R x y)

  weak : IsStrictWeakOrder lt
  weak = ranks_by o (λ (x : X). x)

  irrefl : (x : X) → lt x x ≡ false
  irrefl x = ap is_lt (tied_itself o x)

  -- none of some items stands before one
  abbrev AllAfter : X → List X → Type 0
  AllAfter x ys = AllByRecursion (λ y. lt y x ≡ false) ys

  abbrev Rises : List X → Type 0
  Rises [] = Unit {0}
  Rises (x ∷ xs) = AllAfter x xs × Rises xs

  -- ---- insertion rises

  above : (x y : X) (zs : List X) → lt y x ≡ false → AllAfter y zs → AllAfter x zs
  above x y [] e h = tt
  above x y (z ∷ zs) e h = (weak.chain z y x h.0 e, above x y zs e h.1)

  placed-after : (x y : X) (zs : List X) → lt x y ≡ false → AllAfter y zs → AllAfter y (placed R x zs)
  placed-after x y [] h k = (h, tt)
  placed-after x y (z ∷ zs) h k = elim (is_lt (R z x)) as (λ b. AllAfter y (cond b (z ∷ placed R x zs) (x ∷ z ∷ zs))) [
    | true ↦ (k.0, placed-after x y zs h k.1)
    | false ↦ (h, k)
  ]

  placed-rises : (x : X) (ys : List X) → Rises ys → Rises (placed R x ys)
  placed-rises x [] h = (tt, tt)
  placed-rises x (y ∷ ys) h = elim (is_lt (R y x)) as (λ b. is_lt (R y x) ≡ b → Rises (cond b (y ∷ placed R x ys) (x ∷ y ∷ ys))) [
    | true ↦ λ e. (placed-after x y ys (weak.one_way y x e) h.0, placed-rises x ys h.1)
    | false ↦ λ e. ((e, above x y ys e h.0), h)
  ] refl

  sorted-rises : (xs : List X) → Rises (sorted R xs)
  sorted-rises [] = tt
  sorted-rises (x ∷ xs) = placed-rises x (sorted R xs) (sorted-rises xs)

  -- ---- items that tie stay in their order

  not_both : (z x y : X) → lt y x ≡ true → ties lt z x ≡ true → ties lt z y ≡ true → ⊥
  not_both z x y less with_x with_y =
      let a = both_not (lt z x) (lt x z) with_x in
      let b = both_not (lt z y) (lt y z) with_y in
      false≢true (sym (weak.chain y z x b.1 a.0) ∙ less)

  swapped : (z x y : X) (rest : List X) (a b : Bool) → ties lt z x ≡ a → ties lt z y ≡ b → lt y x ≡ true
      → cond b (y ∷ cond a (x ∷ rest) rest) (cond a (x ∷ rest) rest) ≡ cond a (x ∷ cond b (y ∷ rest) rest) (cond b (y ∷ rest) rest)
  swapped z x y rest true true e f less = absurd (not_both z x y less e f)
  swapped z x y rest true false e f less = refl
  swapped z x y rest false true e f less = refl
  swapped z x y rest false false e f less = refl

  placed-ties : (z x : X) (ys : List X) → filter (ties lt z) (placed R x ys) ≡ filter (ties lt z) (x ∷ ys)
  placed-ties z x [] = refl
  placed-ties z x (y ∷ ys) = elim (is_lt (R y x)) as (λ b. is_lt (R y x) ≡ b → filter (ties lt z) (cond b (y ∷ placed R x ys) (x ∷ y ∷ ys)) ≡ filter (ties lt z) (x ∷ y ∷ ys)) [
    | true ↦ λ e. ap (λ (t : List X). cond (ties lt z y) (y ∷ t) t) (placed-ties z x ys) ∙ swapped z x y (filter (ties lt z) ys) (ties lt z x) (ties lt z y) refl refl e
    | false ↦ λ e. refl
  ] refl

  sorted-ties : (z : X) (xs : List X) → filter (ties lt z) (sorted R xs) ≡ filter (ties lt z) xs
  sorted-ties z [] = refl
  sorted-ties z (x ∷ xs) = placed-ties z x (sorted R xs) ∙ ap (λ (t : List X). cond (ties lt z x) (x ∷ t) t) (sorted-ties z xs)

  -- ---- only one list rises and has these items among those that tie with each

  itself : (x : X) → ties lt x x ≡ true
  itself x = ap (λ (b : Bool). not b && not b) (irrefl x)

  front : (x : X) (xs : List X) → filter (ties lt x) (x ∷ xs) ≡ x ∷ filter (ties lt x) xs
  front x xs = ap (λ (b : Bool). cond b (x ∷ filter (ties lt x) xs) (filter (ties lt x) xs)) (itself x)

  less_than_later : (x y z : X) (b : Bool) → lt y z ≡ b → lt y x ≡ true → lt z x ≡ false → b ≡ true
  less_than_later x y z true e less h = refl
  less_than_later x y z false e less h = absurd (false≢true (sym (weak.chain y z x e h) ∙ less))

  none_ties : (x y : X) (zs : List X) → lt y x ≡ true → AllAfter x zs → filter (ties lt y) zs ≡ []
  none_ties x y [] less h = refl
  none_ties x y (z ∷ zs) less h =
      ap (λ (b : Bool). cond b (z ∷ filter (ties lt y) zs) (filter (ties lt y) zs)) (not_first (lt y z) (lt z y) (less_than_later x y z (lt y z) refl less h.0))
      ∙ none_ties x y zs less h.1

  no_earlier : (x y : X) (xs ys : List X) → lt y x ≡ true → AllAfter x xs → filter (ties lt y) (x ∷ xs) ≡ filter (ties lt y) (y ∷ ys) → ⊥
  no_earlier x y xs ys less h k =
      let none : filter (ties lt y) (x ∷ xs) ≡ [] = none_ties x y (x ∷ xs) less (irrefl x, h) in
      let e : [] ≡ y ∷ filter (ties lt y) ys = sym none ∙ k ∙ front y ys in
      cc e

  no_end : (y : X) (ys : List X) → ((z : X) → filter (ties lt z) [] ≡ filter (ties lt z) (y ∷ ys)) → ⊥
  no_end y ys h = let e : [] ≡ y ∷ filter (ties lt y) ys = h y ∙ front y ys in cc e

  same_first : (x y : X) (xs ys : List X) → ties lt x y ≡ true → filter (ties lt x) (x ∷ xs) ≡ filter (ties lt x) (y ∷ ys) → x ≡ y
  same_first x y xs ys tied h =
      let e : x ∷ filter (ties lt x) xs ≡ y ∷ filter (ties lt x) ys =
      sym (front x xs) ∙ h ∙ ap (λ (b : Bool). cond b (y ∷ filter (ties lt x) ys) (filter (ties lt x) ys)) tied in
      cc e

  tails : (z x : X) (us vs : List X) (b : Bool) → cond b (x ∷ us) us ≡ cond b (x ∷ vs) vs → us ≡ vs
  tails z x us vs true h = cc h
  tails z x us vs false h = h

  tied : (x y : X) → lt x y ≡ false → lt y x ≡ false → ties lt x y ≡ true
  tied x y e f = ap (λ (b : Bool). not b && not (lt y x)) e ∙ ap not f

  unique : (xs ys : List X) → Rises xs → Rises ys → ((z : X) → filter (ties lt z) xs ≡ filter (ties lt z) ys) → xs ≡ ys
  unique [] [] p q h = refl
  unique [] (y ∷ ys) p q h = absurd (no_end y ys h)
  unique (x ∷ xs) [] p q h = absurd (no_end x xs (λ z. sym (h z)))
  unique (x ∷ xs) (y ∷ ys) p q h =
      elim (lt y x) as (λ b. lt y x ≡ b → x ∷ xs ≡ y ∷ ys) [
        | true ↦ λ e. absurd (no_earlier x y xs ys e p.0 (h y))
        | false ↦ λ e. elim (lt x y) as (λ b. lt x y ≡ b → x ∷ xs ≡ y ∷ ys) [
          | true ↦ λ f. absurd (no_earlier y x ys xs f q.0 (sym (h x)))
          | false ↦ λ f.
              let same : x ≡ y = same_first x y xs ys (tied x y f e) (h x) in
              let now : (z : X) → filter (ties lt z) xs ≡ filter (ties lt z) ys =
              λ z. tails z x (filter (ties lt z) xs) (filter (ties lt z) ys) (ties lt z x)
              (h z ∙ ap (λ (w : X). cond (ties lt z w) (w ∷ filter (ties lt z) ys) (filter (ties lt z) ys)) (sym same)) in
              let rest : xs ≡ ys = unique xs ys p.1 q.1 now in
              λ i. same i ∷ rest i
        ] refl
      ] refl

  -- ---- what a sort ensures

  all_after : (x : X) (ys : List X) → ((j : ℕ) (d : X) → j < length ys → lt (get_or ys j d) x ≡ false) → AllAfter x ys
  all_after x [] h = tt
  all_after x (y ∷ ys) h = (h 0 y (omega arith), all_after x ys (λ j d within. h (suc j) d (omega arith)))

  rises_far : (ys : List X) → ((i j : ℕ) (d : X) → i ≤ j → j < length ys → lt (get_or ys j d) (get_or ys i d) ≡ false) → Rises ys
  rises_far [] h = tt
  rises_far (y ∷ ys) h = (
    all_after y ys (λ j d within. h 0 (suc j) d (omega arith) (omega arith)),
    rises_far ys (λ i j d le within. h (suc i) (suc j) d (omega arith) (omega arith)),
  )

  -- a stable sort gives the same as insertion
  pub sorted-is : (xs ys : List X) → IsSorted R ys → IsStable R xs ys → ys ≡ sorted R xs
  sorted-is xs ys up stable =
      unique ys (sorted R xs) (rises_far ys (sorted_far lt weak ys up)) (sorted-rises xs) (λ z. stable z ∙ sym (sorted-ties z xs))

-- ---- items that stand for others

module _ {X Y : Type 0} (R : X → X → Ordering) (S : Y → Y → Ordering) (g : X → Y) (P : X → Type 0) (same : (x y : X) → P x → P y → R x y ≡ S (g x) (g y)) where
  placed-kept : (x : X) (ys : List X) → P x → AllByRecursion P ys → AllByRecursion P (placed R x ys)
  placed-kept x [] h k = (h, tt)
  placed-kept x (y ∷ ys) h k = elim (is_lt (R y x)) as (λ b. AllByRecursion P (cond b (y ∷ placed R x ys) (x ∷ y ∷ ys))) [
    | true ↦ (k.0, placed-kept x ys h k.1)
    | false ↦ (h, k)
  ]

  sorted-kept : (xs : List X) → AllByRecursion P xs → AllByRecursion P (sorted R xs)
  sorted-kept [] h = tt
  sorted-kept (x ∷ xs) h = placed-kept x (sorted R xs) h.0 (sorted-kept xs h.1)

  placed-mapped : (x : X) (ys : List X) → P x → AllByRecursion P ys → map g (placed R x ys) ≡ placed S (g x) (map g ys)
  placed-mapped x [] h k = refl
  placed-mapped x (y ∷ ys) h k =
      (elim (is_lt (R y x)) as (λ b. map g (cond b (y ∷ placed R x ys) (x ∷ y ∷ ys)) ≡ cond b (g y ∷ placed S (g x) (map g ys)) (g x ∷ g y ∷ map g ys)) [
        | true ↦ ap (λ (t : List Y). g y ∷ t) (placed-mapped x ys h k.1)
        | false ↦ refl
      ])
      ∙ ap (λ (r : Ordering). cond (is_lt r) (g y ∷ placed S (g x) (map g ys)) (g x ∷ g y ∷ map g ys)) (same y x k.0 h)

  pub sorted-mapped : (xs : List X) → AllByRecursion P xs → map g (sorted R xs) ≡ sorted S (map g xs)
  sorted-mapped [] h = refl
  sorted-mapped (x ∷ xs) h =
      placed-mapped x (sorted R xs) h.0 (sorted-kept xs h.1) ∙ ap (placed S (g x)) (sorted-mapped xs h.1)
