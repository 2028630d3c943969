-- Where a key stands in a list of entries that rise by their keys, and what an edit at that place does.
use Rattle.std.proofs.Common.{◌≡◌, ℕ, zero, suc, ◌+◌, ◌<◌, ◌≤◌, Bool, true, false, ◌&&◌, not, cond, T, List, [], ◌∷◌, length, get_or, set, Some, None, refl, sym, ap, subst, ◌∙◌, inl, inr, arith}
use Rattle.std.specs.declared.cmp.Ordering.{Ordering}
use Rattle.std.specs.declared.cmp.Ordering.TheVariants.{Less, Equal, Greater}
use Rattle.std.specs.Ordering.{is_lt, is_eq, eq_by_cmp, ordering_reverse}
use Rattle.std.specs.Cmp.{IsTotalOrder}
use Rattle.std.specs.List.{insert, remove}
use Rattle.std.specs.FinMap.{IsAntisymmetric}
use Rattle.std.specs.FinMap.Entries.{by_order, find, put, where_key, below_all, is_sorted}
use Rattle.std.proofs.lemmas.Cmp.{tied_itself}
use Rattle.std.proofs.lemmas.Bool.{cases_lt}
use Rattle.std.proofs.lemmas.List.{get_or_default}
use Rattle.book.specs.Places.{IsPlace, IsGap}

pub first : (a b : Bool) → T (a && b) → T a
first true b h = tt
first false b h = h

pub second : (a b : Bool) → T (a && b) → T b
second true b h = h
second false b h = absurd h

pub less : (r : Ordering) → T (is_lt r) → r ≡ Less
less Less h = refl
less Equal h = absurd h
less Greater h = absurd h

module _ {K : Type 0} {R : K → K → Ordering} (o : IsTotalOrder R) where
  back : (a b : K) → R a b ≡ Less → R b a ≡ Greater
  back a b p = o.antisymm b a ∙ ap ordering_reverse p

  forth : (a b : K) → R a b ≡ Greater → R b a ≡ Less
  forth a b p = o.antisymm b a ∙ ap ordering_reverse p

module _ {K X : Type 0} {R : K → K → Ordering} (o : IsTotalOrder R) (same : IsAntisymmetric R) where
  below_at : (k : K) (es : List (K × X)) (i : ℕ) (d : K × X) → T (below_all R k es) → i < length es → R k (get_or es i d).0 ≡ Less
  below_at k [] i d h lt = absurd (omega arith)
  below_at k (e ∷ es) zero d h lt = less _ (first _ _ h)
  below_at k (e ∷ es) (suc i) d h lt = below_at k es i d (second _ _ h) (omega arith)

  rising_at : (es : List (K × X)) → T (is_sorted R es) → (i j : ℕ) (d : K × X) → i < j → j < length es → R (get_or es i d).0 (get_or es j d).0 ≡ Less
  rising_at [] h i j d lt within = absurd (omega arith)
  rising_at (e ∷ es) h i zero d lt within = absurd (omega arith)
  rising_at (e ∷ es) h zero (suc j) d lt within = below_at e.0 es j d (first _ _ h) (omega arith)
  rising_at (e ∷ es) h (suc i) (suc j) d lt within = rising_at es (second _ _ h) i j d (omega arith) (omega arith)

  -- how the key at a place compares, whatever the default of the read
  pub answered : (es : List (K × X)) (k : K) (m : ℕ) (e : K × X) (r : Ordering) → m < length es → R (get_or es m e).0 k ≡ r → (d : K × X) → R (get_or es m d).0 k ≡ r
  answered es k m e r within p d = subst (λ (x : K × X). R x.0 k ≡ r) (get_or_default es m e d within) p

  -- the entries up to a smaller one are smaller
  pub smaller_from : (es : List (K × X)) (k : K) (m : ℕ) → T (is_sorted R es) → m < length es → ((d : K × X) → R (get_or es m d).0 k ≡ Less) → (j : ℕ) (d : K × X) → j < m + 1 → R (get_or es j d).0 k ≡ Less
  smaller_from es k m h within is j d lt =
      elim (cases_lt j m) [
        | inl below ↦ o.trans _ _ k (rising_at es h j m d below within) (is d)
        | inr ge ↦ let at : m ≡ j = omega arith in subst (λ n. R (get_or es n d).0 k ≡ Less) at (is d)
      ]

  -- the entries from a greater one on are greater
  pub greater_from : (es : List (K × X)) (k : K) (m : ℕ) → T (is_sorted R es) → ((d : K × X) → R (get_or es m d).0 k ≡ Greater) → (j : ℕ) (d : K × X) → m ≤ j → j < length es → R (get_or es j d).0 k ≡ Greater
  greater_from es k m h is j d le within =
      elim (cases_lt m j) [
        | inl above ↦ back o k _ (o.trans k _ _ (forth o _ k (is d)) (rising_at es h m j d above within))
        | inr ge ↦ let at : m ≡ j = omega arith in subst (λ n. R (get_or es n d).0 k ≡ Greater) at (is d)
      ]

  module _ (k : K) where
    -- the tests at an entry, by how its key compares
    place_tail : (e : K × X) (es : List (K × X)) (i : ℕ) → IsPlace (e ∷ es) k (suc i) → IsPlace es k i
    place_tail e es i at = record { within = omega (arith, at.within); is = λ d. at.is d }

    later : (e : K × X) (es : List (K × X)) (i : ℕ) → T (is_sorted R (e ∷ es)) → IsPlace (e ∷ es) k (suc i) → R k e.0 ≡ Greater
    later e es i h at = let below = below_at e.0 es i e (first _ _ h) (omega (arith, at.within)) in back o e.0 k (subst (λ x. R e.0 x ≡ Less) (at.is e) below)

    here : (e : K × X) (es : List (K × X)) → IsPlace (e ∷ es) k 0 → R k e.0 ≡ Equal
    here e es at = subst (λ x. R k x ≡ Equal) (sym (at.is e)) (tied_itself o k)

    pub find-at : (es : List (K × X)) (i : ℕ) (d : K × X) → T (is_sorted R es) → IsPlace es k i → find R k es ≡ Some (get_or es i d).1
    find-at [] i d h at = absurd (omega (arith, at.within))
    find-at (e ∷ es) zero d h at = ap (λ r. cond (is_eq r) (Some e.1) (find R k es)) (here e es at)
    find-at (e ∷ es) (suc i) d h at = ap (λ r. cond (is_eq r) (Some e.1) (find R k es)) (later e es i h at) ∙ find-at es i d (second _ _ h) (place_tail e es i at)

    pub put-at : (es : List (K × X)) (i : ℕ) (v : X) → T (is_sorted R es) → IsPlace es k i → put R k v es ≡ set es i (k, v)
    put-at [] i v h at = absurd (omega (arith, at.within))
    put-at (e ∷ es) zero v h at = ap (λ r. by_order r ((k, v) ∷ e ∷ es) ((e.0, v) ∷ es) (e ∷ put R k v es)) (here e es at) ∙ ap (λ x. (x, v) ∷ es) (at.is e)
    put-at (e ∷ es) (suc i) v h at = ap (λ r. by_order r ((k, v) ∷ e ∷ es) ((e.0, v) ∷ es) (e ∷ put R k v es)) (later e es i h at) ∙ ap (λ t. e ∷ t) (put-at es i v (second _ _ h) (place_tail e es i at))

    kept : (es : List (K × X)) → T (below_all R k es) → where_key R (λ x. not (eq_by_cmp R k x)) es ≡ es
    kept [] h = refl
    kept (e ∷ es) h = ap (λ r. cond (not (is_eq r)) (e ∷ where_key R (λ x. not (eq_by_cmp R k x)) es) (where_key R (λ x. not (eq_by_cmp R k x)) es)) (less _ (first _ _ h)) ∙ ap (λ t. e ∷ t) (kept es (second _ _ h))

    pub where_key-at : (es : List (K × X)) (i : ℕ) → T (is_sorted R es) → IsPlace es k i → where_key R (λ x. not (eq_by_cmp R k x)) es ≡ remove es i
    where_key-at [] i h at = absurd (omega (arith, at.within))
    where_key-at (e ∷ es) zero h at = ap (λ r. cond (not (is_eq r)) (e ∷ where_key R (λ x. not (eq_by_cmp R k x)) es) (where_key R (λ x. not (eq_by_cmp R k x)) es)) (here e es at) ∙ kept es (subst (λ x. T (below_all R x es)) (at.is e) (first _ _ h))
    where_key-at (e ∷ es) (suc i) h at = ap (λ r. cond (not (is_eq r)) (e ∷ where_key R (λ x. not (eq_by_cmp R k x)) es) (where_key R (λ x. not (eq_by_cmp R k x)) es)) (later e es i h at) ∙ ap (λ t. e ∷ t) (where_key-at es i (second _ _ h) (place_tail e es i at))

    gap_tail : (e : K × X) (es : List (K × X)) (i : ℕ) → IsGap R (e ∷ es) k (suc i) → IsGap R es k i
    gap_tail e es i gap = record { within = omega (arith, gap.within); smaller = λ j d lt. gap.smaller (suc j) d (omega arith); greater = λ j d le lt. gap.greater (suc j) d (omega arith) (omega arith) }

    -- an entry before the gap
    before : (e : K × X) (es : List (K × X)) (i : ℕ) → IsGap R (e ∷ es) k (suc i) → R k e.0 ≡ Greater
    before e es i gap = back o e.0 k (gap.smaller 0 e (omega arith))

    -- the entry after the gap
    after : (e : K × X) (es : List (K × X)) → IsGap R (e ∷ es) k 0 → R k e.0 ≡ Less
    after e es gap = forth o e.0 k (gap.greater 0 e (omega arith) (omega arith))

    gap_rest : (e : K × X) (es : List (K × X)) → IsGap R (e ∷ es) k 0 → IsGap R es k 0
    gap_rest e es gap = record { within = omega arith; smaller = λ j d lt. absurd (omega arith); greater = λ j d le lt. gap.greater (suc j) d (omega arith) (omega arith) }

    pub find-gap : (es : List (K × X)) (i : ℕ) → IsGap R es k i → find R k es ≡ None
    find-gap [] i gap = refl
    find-gap (e ∷ es) zero gap = ap (λ r. cond (is_eq r) (Some e.1) (find R k es)) (after e es gap) ∙ find-gap es 0 (gap_rest e es gap)
    find-gap (e ∷ es) (suc i) gap = ap (λ r. cond (is_eq r) (Some e.1) (find R k es)) (before e es i gap) ∙ find-gap es i (gap_tail e es i gap)

    pub put-gap : (es : List (K × X)) (i : ℕ) (v : X) → IsGap R es k i → put R k v es ≡ insert es i (k, v)
    put-gap [] zero v gap = refl
    put-gap [] (suc i) v gap = absurd (omega (arith, gap.within))
    put-gap (e ∷ es) zero v gap = ap (λ r. by_order r ((k, v) ∷ e ∷ es) ((e.0, v) ∷ es) (e ∷ put R k v es)) (after e es gap)
    put-gap (e ∷ es) (suc i) v gap = ap (λ r. by_order r ((k, v) ∷ e ∷ es) ((e.0, v) ∷ es) (e ∷ put R k v es)) (before e es i gap) ∙ ap (λ t. e ∷ t) (put-gap es i v (gap_tail e es i gap))
