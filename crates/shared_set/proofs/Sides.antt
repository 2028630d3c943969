-- Sorted items on both sides of one: what is looked for, put in and taken out among them.
use Rattle.std.proofs.Common.{◌≡◌, Bool, true, false, cond, not, List, [], ◌∷◌, ◌++◌, Option, Some, None, refl, sym, ap, subst, ◌∙◌}
use Rattle.std.specs.declared.cmp.Ordering.{Ordering}
use Rattle.std.specs.declared.cmp.Ordering.TheVariants.{Less, Equal, Greater}
use Rattle.std.specs.Ordering.{is_eq, is_lt, is_gt, eq_by_cmp, ordering_reverse, match_ordering}
use Rattle.std.specs.Cmp.{IsTotalOrder}
use Rattle.std.specs.List.{AllByRecursion, find}
use Rattle.std.specs.BTreeSet.{replace_key}
use Rattle.std.proofs.lemmas.Bool.{false≢true}
use Rattle.shared_set.specs.Sorted.{Rises, find_last, or_other, without_key}

-- each of some items is less than one, or greater
abbrev pub Below : {T : Type 0} → (T → T → Ordering) → T → List T → Type 0
Below R x ys = AllByRecursion (λ y. R y x ≡ Less) ys

abbrev pub Above : {T : Type 0} → (T → T → Ordering) → T → List T → Type 0
Above R x ys = AllByRecursion (λ y. R x y ≡ Less) ys

-- ---- the parts of a list that rises

module _ {T : Type 0} (R : T → T → Ordering) where
  front : (y : T) (left : List T) (x : T) (right : List T) → Above R y (left ++ x ∷ right) → Above R y left
  front y [] x right h = tt
  front y (z ∷ left) x right h = (h.0, front y left x right h.1)

  middle : (y : T) (left : List T) (x : T) (right : List T) → Above R y (left ++ x ∷ right) → R y x ≡ Less
  middle y [] x right h = h.0
  middle y (z ∷ left) x right h = middle y left x right h.1

  pub left-rises : (left : List T) (x : T) (right : List T) → Rises R (left ++ x ∷ right) → Rises R left
  left-rises [] x right h = tt
  left-rises (y ∷ left) x right h = (front y left x right h.0, left-rises left x right h.1)

  pub right-rises : (left : List T) (x : T) (right : List T) → Rises R (left ++ x ∷ right) → Rises R right
  right-rises [] x right h = h.1
  right-rises (y ∷ left) x right h = right-rises left x right h.1

  pub left-below : (left : List T) (x : T) (right : List T) → Rises R (left ++ x ∷ right) → Below R x left
  left-below [] x right h = tt
  left-below (y ∷ left) x right h = (middle y left x right h.0, left-below left x right h.1)

  pub right-above : (left : List T) (x : T) (right : List T) → Rises R (left ++ x ∷ right) → Above R x right
  right-above [] x right h = h.0
  right-above (y ∷ left) x right h = right-above left x right h.1

module _ {T : Type 0} {R : T → T → Ordering} (o : IsTotalOrder R) where
  back : (a b : T) → R a b ≡ Less → R b a ≡ Greater
  back a b p = o.antisymm b a ∙ ap ordering_reverse p

  forth : (a b : T) → R a b ≡ Greater → R b a ≡ Less
  forth a b p = o.antisymm b a ∙ ap ordering_reverse p

  tied : (a b : T) → R a b ≡ Equal → R b a ≡ Equal
  tied a b p = o.antisymm b a ∙ ap ordering_reverse p

  -- a key at or above x is above all that are below x
  over : (k y x : T) → R y x ≡ Less → R x k ≡ Less → R k y ≡ Greater
  over k y x p q = back y k (o.trans y x k p q)

  over_tied : (k y x : T) → R y x ≡ Less → R x k ≡ Equal → R k y ≡ Greater
  over_tied k y x p q = o.congr k x y (tied x k q) ∙ back y x p

  lower : (a b : T) (ys : List T) → R a b ≡ Less → Above R b ys → Above R a ys
  lower a b [] p h = tt
  lower a b (y ∷ ys) p h = (o.trans a b y p h.0, lower a b ys p h.1)

  same-above : (a b : T) (ys : List T) → R a b ≡ Equal → Above R b ys → Above R a ys
  same-above a b [] p h = tt
  same-above a b (y ∷ ys) p h = (o.congr a b y p ∙ h.0, same-above a b ys p h.1)

  -- ---- put in

  put_left : (k : T) (left : List T) (x : T) (right : List T) → R k x ≡ Less → replace_key R left k ++ x ∷ right ≡ replace_key R (left ++ x ∷ right) k
  put_left k [] x right p = sym (ap (λ (r : Ordering). match_ordering r (k ∷ x ∷ right) (k ∷ right) (x ∷ replace_key R right k)) p)
  put_left k (y ∷ left) x right p =
      let rest = put_left k left x right p in
      elim (R k y) as (λ r. match_ordering r (k ∷ y ∷ left) (k ∷ left) (y ∷ replace_key R left k) ++ x ∷ right ≡ match_ordering r (k ∷ y ∷ left ++ x ∷ right) (k ∷ left ++ x ∷ right) (y ∷ replace_key R (left ++ x ∷ right) k)) [
        | Less ↦ refl
        | Equal ↦ refl
        | Greater ↦ ap (λ (t : List T). y ∷ t) rest
      ]

  put_right : (k : T) (left : List T) (x : T) (right : List T) → Below R x left → R x k ≡ Less → left ++ x ∷ replace_key R right k ≡ replace_key R (left ++ x ∷ right) k
  put_right k [] x right h p = sym (ap (λ (r : Ordering). match_ordering r (k ∷ x ∷ right) (k ∷ right) (x ∷ replace_key R right k)) (back x k p))
  put_right k (y ∷ left) x right h p =
      ap (λ (t : List T). y ∷ t) (put_right k left x right h.1 p)
      ∙ sym (ap (λ (r : Ordering). match_ordering r (k ∷ y ∷ left ++ x ∷ right) (k ∷ left ++ x ∷ right) (y ∷ replace_key R (left ++ x ∷ right) k)) (over k y x h.0 p))

  put_here : (k : T) (left : List T) (x : T) (right : List T) → Below R x left → R x k ≡ Equal → left ++ k ∷ right ≡ replace_key R (left ++ x ∷ right) k
  put_here k [] x right h p = sym (ap (λ (r : Ordering). match_ordering r (k ∷ x ∷ right) (k ∷ right) (x ∷ replace_key R right k)) (tied x k p))
  put_here k (y ∷ left) x right h p =
      ap (λ (t : List T). y ∷ t) (put_here k left x right h.1 p)
      ∙ sym (ap (λ (r : Ordering). match_ordering r (k ∷ y ∷ left ++ x ∷ right) (k ∷ left ++ x ∷ right) (y ∷ replace_key R (left ++ x ∷ right) k)) (over_tied k y x h.0 p))

  pub put-less : (items : List T) (k : T) (left : List T) (x : T) (right l : List T) (z : T) (r : List T) → items ≡ left ++ x ∷ right → R x k ≡ Less → l ≡ left → z ≡ x → (Rises R right → r ≡ replace_key R right k) → Rises R items → l ++ z ∷ r ≡ replace_key R items k
  put-less items k left x right l z r is p e f g rises =
      let h : Rises R (left ++ x ∷ right) = subst (Rises R) is rises in
      let done = g (right-rises R left x right h) in
      (λ i. e i ++ f i ∷ done i)
      ∙ put_right k left x right (left-below R left x right h) p
      ∙ ap (λ (t : List T). replace_key R t k) (sym is)

  pub put-greater : (items : List T) (k : T) (left : List T) (x : T) (right l : List T) (z : T) (r : List T) → items ≡ left ++ x ∷ right → R x k ≡ Greater → (Rises R left → l ≡ replace_key R left k) → z ≡ x → r ≡ right → Rises R items → l ++ z ∷ r ≡ replace_key R items k
  put-greater items k left x right l z r is p g f e rises =
      let h : Rises R (left ++ x ∷ right) = subst (Rises R) is rises in
      let done = g (left-rises R left x right h) in
      (λ i. done i ++ f i ∷ e i)
      ∙ put_left k left x right (forth x k p)
      ∙ ap (λ (t : List T). replace_key R t k) (sym is)

  pub put-equal : (items : List T) (k : T) (left : List T) (x : T) (right l r : List T) → items ≡ left ++ x ∷ right → R x k ≡ Equal → l ≡ left → r ≡ right → Rises R items → l ++ k ∷ r ≡ replace_key R items k
  put-equal items k left x right l r is p e f rises =
      let h : Rises R (left ++ x ∷ right) = subst (Rises R) is rises in
      (λ i. e i ++ k ∷ f i)
      ∙ put_here k left x right (left-below R left x right h) p
      ∙ ap (λ (t : List T). replace_key R t k) (sym is)

  -- ---- taken out

  kept_above : (k : T) (ys : List T) → Above R k ys → without_key R k ys ≡ ys
  kept_above k [] h = refl
  kept_above k (y ∷ ys) h =
      ap (λ (r : Ordering). cond (not (is_eq r)) (y ∷ without_key R k ys) (without_key R k ys)) h.0
      ∙ ap (λ (t : List T). y ∷ t) (kept_above k ys h.1)

  gone_left : (k : T) (left : List T) (x : T) (right : List T) → R k x ≡ Less → Above R x right → without_key R k left ++ x ∷ right ≡ without_key R k (left ++ x ∷ right)
  gone_left k [] x right p h =
      sym (ap (λ (r : Ordering). cond (not (is_eq r)) (x ∷ without_key R k right) (without_key R k right)) p
      ∙ ap (λ (t : List T). x ∷ t) (kept_above k right (lower k x right p h)))
  gone_left k (y ∷ left) x right p h =
      let rest = gone_left k left x right p h in
      elim (eq_by_cmp R k y) as (λ b. cond (not b) (y ∷ without_key R k left) (without_key R k left) ++ x ∷ right ≡ cond (not b) (y ∷ without_key R k (left ++ x ∷ right)) (without_key R k (left ++ x ∷ right))) [
        | true ↦ rest
        | false ↦ ap (λ (t : List T). y ∷ t) rest
      ]

  gone_right : (k : T) (left : List T) (x : T) (right : List T) → Below R x left → R x k ≡ Less → left ++ x ∷ without_key R k right ≡ without_key R k (left ++ x ∷ right)
  gone_right k [] x right h p = sym (ap (λ (r : Ordering). cond (not (is_eq r)) (x ∷ without_key R k right) (without_key R k right)) (back x k p))
  gone_right k (y ∷ left) x right h p =
      ap (λ (t : List T). y ∷ t) (gone_right k left x right h.1 p)
      ∙ sym (ap (λ (r : Ordering). cond (not (is_eq r)) (y ∷ without_key R k (left ++ x ∷ right)) (without_key R k (left ++ x ∷ right))) (over k y x h.0 p))

  gone_here : (k : T) (left : List T) (x : T) (right : List T) → Below R x left → Above R x right → R x k ≡ Equal → left ++ right ≡ without_key R k (left ++ x ∷ right)
  gone_here k [] x right h a p =
      sym (ap (λ (r : Ordering). cond (not (is_eq r)) (x ∷ without_key R k right) (without_key R k right)) (tied x k p)
      ∙ kept_above k right (same-above k x right (tied x k p) a))
  gone_here k (y ∷ left) x right h a p =
      ap (λ (t : List T). y ∷ t) (gone_here k left x right h.1 a p)
      ∙ sym (ap (λ (r : Ordering). cond (not (is_eq r)) (y ∷ without_key R k (left ++ x ∷ right)) (without_key R k (left ++ x ∷ right))) (over_tied k y x h.0 p))

  pub gone-less : (items : List T) (k : T) (left : List T) (x : T) (right l : List T) (z : T) (r : List T) → items ≡ left ++ x ∷ right → R x k ≡ Less → l ≡ left → z ≡ x → (Rises R right → r ≡ without_key R k right) → Rises R items → l ++ z ∷ r ≡ without_key R k items
  gone-less items k left x right l z r is p e f g rises =
      let h : Rises R (left ++ x ∷ right) = subst (Rises R) is rises in
      let done = g (right-rises R left x right h) in
      (λ i. e i ++ f i ∷ done i)
      ∙ gone_right k left x right (left-below R left x right h) p
      ∙ ap (without_key R k) (sym is)

  pub gone-greater : (items : List T) (k : T) (left : List T) (x : T) (right l : List T) (z : T) (r : List T) → items ≡ left ++ x ∷ right → R x k ≡ Greater → (Rises R left → l ≡ without_key R k left) → z ≡ x → r ≡ right → Rises R items → l ++ z ∷ r ≡ without_key R k items
  gone-greater items k left x right l z r is p g f e rises =
      let h : Rises R (left ++ x ∷ right) = subst (Rises R) is rises in
      let done = g (left-rises R left x right h) in
      (λ i. done i ++ f i ∷ e i)
      ∙ gone_left k left x right (forth x k p) (right-above R left x right h)
      ∙ ap (without_key R k) (sym is)

  pub gone-equal : (items : List T) (k : T) (left : List T) (x : T) (right : List T) → items ≡ left ++ x ∷ right → R x k ≡ Equal → Rises R items → left ++ right ≡ without_key R k items
  gone-equal items k left x right is p rises =
      let h : Rises R (left ++ x ∷ right) = subst (Rises R) is rises in
      gone_here k left x right (left-below R left x right h) (right-above R left x right h) p
      ∙ ap (without_key R k) (sym is)

  -- ---- a changed list rises

  above-put : (x k : T) (ys : List T) → R x k ≡ Less → Above R x ys → Above R x (replace_key R ys k)
  above-put x k [] p h = (p, tt)
  above-put x k (y ∷ ys) p h =
      let rest = above-put x k ys p h.1 in
      elim (R k y) as (λ r. Above R x (match_ordering r (k ∷ y ∷ ys) (k ∷ ys) (y ∷ replace_key R ys k))) [
        | Less ↦ (p, h)
        | Equal ↦ (p, h.1)
        | Greater ↦ (h.0, rest)
      ]

  pub put-rises : (xs : List T) (k : T) → Rises R xs → Rises R (replace_key R xs k)
  put-rises [] k h = (tt, tt)
  put-rises (x ∷ xs) k h =
      let rest = put-rises xs k h.1 in
      elim (R k x) as (λ r. R k x ≡ r → Rises R (match_ordering r (k ∷ x ∷ xs) (k ∷ xs) (x ∷ replace_key R xs k))) [
        | Less ↦ λ p. ((p, lower k x xs p h.0), h)
        | Equal ↦ λ p. (same-above k x xs p h.0, h.1)
        | Greater ↦ λ p. (above-put x k xs (forth k x p) h.0, rest)
      ] refl

  above-gone : (x k : T) (ys : List T) → Above R x ys → Above R x (without_key R k ys)
  above-gone x k [] h = tt
  above-gone x k (y ∷ ys) h =
      let rest = above-gone x k ys h.1 in
      elim (eq_by_cmp R k y) as (λ b. Above R x (cond (not b) (y ∷ without_key R k ys) (without_key R k ys))) [
        | true ↦ rest
        | false ↦ (h.0, rest)
      ]

  pub gone-rises : (k : T) (xs : List T) → Rises R xs → Rises R (without_key R k xs)
  gone-rises k [] h = tt
  gone-rises k (x ∷ xs) h =
      let rest = gone-rises k xs h.1 in
      let above = above-gone x k xs h.0 in
      elim (eq_by_cmp R k x) as (λ b. Rises R (cond (not b) (x ∷ without_key R k xs) (without_key R k xs))) [
        | true ↦ rest
        | false ↦ (above, rest)
      ]

-- ---- looked for

skip : {T : Type 0} (t : T → Bool) (left ys : List T) → AllByRecursion (λ y. t y ≡ false) left → find t (left ++ ys) ≡ find t ys
skip t [] ys h = refl
skip t (y ∷ left) ys h = ap (λ (b : Bool). cond b (Some y) (find t (left ++ ys))) h.0 ∙ skip t left ys h.1

module _ {T : Type 0} (R : T → T → Ordering) (s : T → Ordering) (up : (a b : T) → is_gt (s a) ≡ false → R a b ≡ Less → s b ≡ Less) where
  -- what is below an item that isn't above what is looked for is below that too
  under : (y x : T) → R y x ≡ Less → is_lt (s x) ≡ false → s y ≡ Greater
  under y x p off =
      elim (s y) as (λ r. s y ≡ r → r ≡ Greater) [
        | Less ↦ λ e. absurd (false≢true (sym off ∙ ap is_lt (up y x (ap is_gt e) p)))
        | Equal ↦ λ e. absurd (false≢true (sym off ∙ ap is_lt (up y x (ap is_gt e) p)))
        | Greater ↦ λ e. refl
      ] refl

  left_fails : (t : Ordering → Bool) → t Greater ≡ false → (left : List T) (x : T) → Below R x left → is_lt (s x) ≡ false → AllByRecursion (λ y. t (s y) ≡ false) left
  left_fails t off [] x h low = tt
  left_fails t off (y ∷ left) x h low = (ap t (under y x h.0 low) ∙ off, left_fails t off left x h.1 low)

  right_fails : (t : Ordering → Bool) → t Less ≡ false → (x : T) (right : List T) → s x ≡ Less → Above R x right → find (λ y. t (s y)) right ≡ None
  right_fails t off x [] p h = refl
  right_fails t off x (y ∷ right) p h =
      ap (λ (b : Bool). cond b (Some y) (find (λ z. t (s z)) right)) (ap t (up x y (ap is_gt p) h.0) ∙ off)
      ∙ right_fails t off x right p h.1

  equal_left : (left : List T) (x : T) (right : List T) → s x ≡ Less → Above R x right → find (λ y. is_eq (s y)) left ≡ find (λ y. is_eq (s y)) (left ++ x ∷ right)
  equal_left [] x right p h = sym (ap (λ (r : Ordering). cond (is_eq r) (Some x) (find (λ y. is_eq (s y)) right)) p ∙ right_fails is_eq refl x right p h)
  equal_left (y ∷ left) x right p h =
      let rest = equal_left left x right p h in
      elim (is_eq (s y)) as (λ b. cond b (Some y) (find (λ z. is_eq (s z)) left) ≡ cond b (Some y) (find (λ z. is_eq (s z)) (left ++ x ∷ right))) [
        | true ↦ refl
        | false ↦ rest
      ]

  pub equal-less : (items left : List T) (x : T) (right : List T) (found : Option T) → items ≡ left ++ x ∷ right → s x ≡ Less → (Rises R left → found ≡ find (λ y. is_eq (s y)) left) → Rises R items → found ≡ find (λ y. is_eq (s y)) items
  equal-less items left x right found is p f rises =
      let h : Rises R (left ++ x ∷ right) = subst (Rises R) is rises in
      f (left-rises R left x right h)
      ∙ equal_left left x right p (right-above R left x right h)
      ∙ ap (find (λ y. is_eq (s y))) (sym is)

  pub equal-here : (items left : List T) (x : T) (right : List T) (z : T) → items ≡ left ++ x ∷ right → s x ≡ Equal → z ≡ x → Rises R items → Some z ≡ find (λ y. is_eq (s y)) items
  equal-here items left x right z is p e rises =
      let h : Rises R (left ++ x ∷ right) = subst (Rises R) is rises in
      ap (λ (y : T). Some y) e
      ∙ sym (skip (λ y. is_eq (s y)) left (x ∷ right) (left_fails is_eq refl left x (left-below R left x right h) (ap is_lt p))
      ∙ ap (λ (r : Ordering). cond (is_eq r) (Some x) (find (λ y. is_eq (s y)) right)) p)
      ∙ ap (find (λ y. is_eq (s y))) (sym is)

  pub equal-greater : (items left : List T) (x : T) (right : List T) (found : Option T) → items ≡ left ++ x ∷ right → s x ≡ Greater → (Rises R right → found ≡ find (λ y. is_eq (s y)) right) → Rises R items → found ≡ find (λ y. is_eq (s y)) items
  equal-greater items left x right found is p f rises =
      let h : Rises R (left ++ x ∷ right) = subst (Rises R) is rises in
      f (right-rises R left x right h)
      ∙ sym (skip (λ y. is_eq (s y)) left (x ∷ right) (left_fails is_eq refl left x (left-below R left x right h) (ap is_lt p))
      ∙ ap (λ (r : Ordering). cond (is_eq r) (Some x) (find (λ y. is_eq (s y)) right)) p)
      ∙ ap (find (λ y. is_eq (s y))) (sym is)

  some_left : (left : List T) (x : T) (right : List T) (z : T) → Some z ≡ find (λ y. is_lt (s y)) left → Some z ≡ find (λ y. is_lt (s y)) (left ++ x ∷ right)
  some_left [] x right z e = absurd (differs e)
    where
      differs : Some z ≡ None → ⊥
      differs e = cc
  some_left (y ∷ left) x right z e =
      elim (is_lt (s y)) as (λ b. Some z ≡ cond b (Some y) (find (λ w. is_lt (s w)) left) → Some z ≡ cond b (Some y) (find (λ w. is_lt (s w)) (left ++ x ∷ right))) [
        | true ↦ λ f. f
        | false ↦ λ f. some_left left x right z f
      ] e

  none_left : (left : List T) (x : T) (right : List T) → None ≡ find (λ y. is_lt (s y)) left → is_lt (s x) ≡ true → Some x ≡ find (λ y. is_lt (s y)) (left ++ x ∷ right)
  none_left [] x right e p = sym (ap (λ (b : Bool). cond b (Some x) (find (λ y. is_lt (s y)) right)) p)
  none_left (y ∷ left) x right e p =
      elim (is_lt (s y)) as (λ b. None ≡ cond b (Some y) (find (λ w. is_lt (s w)) left) → Some x ≡ cond b (Some y) (find (λ w. is_lt (s w)) (left ++ x ∷ right))) [
        | true ↦ λ f. absurd (differs f)
        | false ↦ λ f. none_left left x right f p
      ] e
    where
      differs : None ≡ Some y → ⊥
      differs f = cc

  pub above-some : (items left : List T) (x : T) (right : List T) (z : T) → items ≡ left ++ x ∷ right → (Rises R left → Some z ≡ find (λ y. is_lt (s y)) left) → Rises R items → Some z ≡ find (λ y. is_lt (s y)) items
  above-some items left x right z is f rises =
      let h : Rises R (left ++ x ∷ right) = subst (Rises R) is rises in
      some_left left x right z (f (left-rises R left x right h)) ∙ ap (find (λ y. is_lt (s y))) (sym is)

  pub above-none : (items left : List T) (x : T) (right : List T) (z : T) → items ≡ left ++ x ∷ right → s x ≡ Less → (Rises R left → None ≡ find (λ y. is_lt (s y)) left) → z ≡ x → Rises R items → Some z ≡ find (λ y. is_lt (s y)) items
  above-none items left x right z is p f e rises =
      let h : Rises R (left ++ x ∷ right) = subst (Rises R) is rises in
      ap (λ (y : T). Some y) e
      ∙ none_left left x right (f (left-rises R left x right h)) (ap is_lt p)
      ∙ ap (find (λ y. is_lt (s y))) (sym is)

  pub above-right : (items left : List T) (x : T) (right : List T) (found : Option T) → items ≡ left ++ x ∷ right → is_lt (s x) ≡ false → (Rises R right → found ≡ find (λ y. is_lt (s y)) right) → Rises R items → found ≡ find (λ y. is_lt (s y)) items
  above-right items left x right found is low f rises =
      let h : Rises R (left ++ x ∷ right) = subst (Rises R) is rises in
      f (right-rises R left x right h)
      ∙ sym (skip (λ y. is_lt (s y)) left (x ∷ right) (left_fails is_lt refl left x (left-below R left x right h) low)
      ∙ ap (λ (b : Bool). cond b (Some x) (find (λ y. is_lt (s y)) right)) low)
      ∙ ap (find (λ y. is_lt (s y))) (sym is)

-- ---- the last below

module _ {T : Type 0} where
  or-none : (o : Option T) → or_other o None ≡ o
  or-none None = refl
  or-none (Some x) = refl

  or-assoc : (a b c : Option T) → or_other (or_other a b) c ≡ or_other a (or_other b c)
  or-assoc None b c = refl
  or-assoc (Some x) b c = refl

  last-append : (t : T → Bool) (left ys : List T) → find_last t (left ++ ys) ≡ or_other (find_last t ys) (find_last t left)
  last-append t [] ys = sym (or-none (find_last t ys))
  last-append t (y ∷ left) ys =
      ap (λ (o : Option T). or_other o (cond (t y) (Some y) None)) (last-append t left ys)
      ∙ or-assoc (find_last t ys) (find_last t left) (cond (t y) (Some y) None)

module _ {T : Type 0} (R : T → T → Ordering) (s : T → Ordering) (up : (a b : T) → is_gt (s a) ≡ false → R a b ≡ Less → s b ≡ Less) where
  last_fails : (x : T) (right : List T) → is_gt (s x) ≡ false → Above R x right → find_last (λ y. is_gt (s y)) right ≡ None
  last_fails x [] p h = refl
  last_fails x (y ∷ right) p h =
      (λ i. or_other (last_fails x right p h.1 i) (cond (is_gt (up x y p h.0 i)) (Some y) None))

  pub below-some : (items left : List T) (x : T) (right : List T) (z : T) → items ≡ left ++ x ∷ right → (Rises R right → Some z ≡ find_last (λ y. is_gt (s y)) right) → Rises R items → Some z ≡ find_last (λ y. is_gt (s y)) items
  below-some items left x right z is f rises =
      let h : Rises R (left ++ x ∷ right) = subst (Rises R) is rises in
      let found = f (right-rises R left x right h) in
      (λ i. or_other (or_other (found i) (cond (is_gt (s x)) (Some x) None)) (find_last (λ y. is_gt (s y)) left))
      ∙ sym (last-append (λ y. is_gt (s y)) left (x ∷ right))
      ∙ ap (find_last (λ y. is_gt (s y))) (sym is)

  pub below-none : (items left : List T) (x : T) (right : List T) (z : T) → items ≡ left ++ x ∷ right → s x ≡ Greater → (Rises R right → None ≡ find_last (λ y. is_gt (s y)) right) → z ≡ x → Rises R items → Some z ≡ find_last (λ y. is_gt (s y)) items
  below-none items left x right z is p f e rises =
      let h : Rises R (left ++ x ∷ right) = subst (Rises R) is rises in
      let found = f (right-rises R left x right h) in
      ap (λ (y : T). Some y) e
      ∙ sym (last-append (λ y. is_gt (s y)) left (x ∷ right)
      ∙ ap (λ (o : Option T). or_other (or_other o (cond (is_gt (s x)) (Some x) None)) (find_last (λ y. is_gt (s y)) left)) (sym found)
      ∙ ap (λ (r : Ordering). or_other (cond (is_gt r) (Some x) None) (find_last (λ y. is_gt (s y)) left)) p)
      ∙ ap (find_last (λ y. is_gt (s y))) (sym is)

  pub below-left : (items left : List T) (x : T) (right : List T) (found : Option T) → items ≡ left ++ x ∷ right → is_gt (s x) ≡ false → (Rises R left → found ≡ find_last (λ y. is_gt (s y)) left) → Rises R items → found ≡ find_last (λ y. is_gt (s y)) items
  below-left items left x right found is low f rises =
      let h : Rises R (left ++ x ∷ right) = subst (Rises R) is rises in
      f (left-rises R left x right h)
      ∙ sym (last-append (λ y. is_gt (s y)) left (x ∷ right)
      ∙ (λ i. or_other (or_other (last_fails x right low (right-above R left x right h) i) (cond (low i) (Some x) None)) (find_last (λ y. is_gt (s y)) left)))
      ∙ ap (find_last (λ y. is_gt (s y))) (sym is)
