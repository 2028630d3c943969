-- Lists that are walked item by item.
use Rattle.std.proofs.Common.{◌≡◌, ℕ, ◌+◌, ◌<◌, ◌≤◌, Bool, true, false, List, [], ◌∷◌, length, get_or, drop, refl, sym, ap, ◌∙◌}
use Rattle.std.specs.List.{list_any, list_all}
use Rattle.std.proofs.lemmas.List.{drop_all}
use Rattle.query_terms.specs.declared.kinds.Term.{Term}
use Rattle.query.specs.declared.matching.Group.{Group}
use Rattle.query.specs.declared.matching.Group.TheVariants as groups
use Rattle.query_terms.proofs.Walks.{left_here}
use Rattle.query_terms.specs.Patterns.{Known}
use Rattle.query.specs.Asking.{one_after, one_in, all_others}
use Rattle.query.specs.Matching.{group_of, same_group, among, one_holds, matches}

-- one term of a group, after some
module _ (group : Group) (holds : Term → Bool) (whole : Bool) (ts : List Term) (i : ℕ) (t : Term) (lt : i < length ts) (is : t ≡ get_or ts i t) where
  pub one_pass : (none : Bool) → whole ≡ one_after none group holds (drop i ts) → same_group group (group_of t) ≡ false → whole ≡ one_after none group holds (drop (i + 1) ts)
  one_pass none e other = rw (e, left_here ts i t lt is, other) refl

  pub one_here : (none : Bool) → whole ≡ one_after none group holds (drop i ts) → same_group group (group_of t) ≡ true → holds t ≡ true → true ≡ whole
  one_here none e same hit = rw (e, left_here ts i t lt is, same, hit) refl

  pub one_more : (none : Bool) → whole ≡ one_after none group holds (drop i ts) → same_group group (group_of t) ≡ true → holds t ≡ false → whole ≡ one_after false group holds (drop (i + 1) ts)
  one_more none e same miss = rw (e, left_here ts i t lt is, same, miss) refl

  pub others_pass : whole ≡ all_others holds (drop i ts) → same_group groups.Other (group_of t) ≡ false → whole ≡ all_others holds (drop (i + 1) ts)
  others_pass e other = rw (e, left_here ts i t lt is, other) refl

  pub others_more : whole ≡ all_others holds (drop i ts) → same_group groups.Other (group_of t) ≡ true → holds t ≡ true → whole ≡ all_others holds (drop (i + 1) ts)
  others_more e same hit = rw (e, left_here ts i t lt is, same, hit) refl

  pub others_fail : whole ≡ all_others holds (drop i ts) → same_group groups.Other (group_of t) ≡ true → holds t ≡ false → false ≡ whole
  others_fail e same miss = rw (e, left_here ts i t lt is, same, miss) refl

pub one_end : (group : Group) (holds : Term → Bool) (whole : Bool) (ts : List Term) (i : ℕ) (none : Bool) → whole ≡ one_after none group holds (drop i ts) → length ts ≤ i → none ≡ whole
one_end group holds whole ts i none e le = rw (e, drop_all i ts le) refl

pub others_end : (holds : Term → Bool) (whole : Bool) (ts : List Term) (i : ℕ) → whole ≡ all_others holds (drop i ts) → length ts ≤ i → true ≡ whole
others_end holds whole ts i e le = rw (e, drop_all i ts le) refl

-- the walks are what the definition says
some_step : (group : Group) (holds : Term → Bool) (t : Term) (ts : List Term) (b : Bool) → same_group group (group_of t) ≡ b → one_after false group holds ts ≡ list_any holds (among group ts) → one_after false group holds (t ∷ ts) ≡ list_any holds (among group (t ∷ ts))
some_step group holds t ts true e h = rw (e, h) refl
some_step group holds t ts false e h = rw (e, h) refl

some_is : (group : Group) (holds : Term → Bool) (ts : List Term) → one_after false group holds ts ≡ list_any holds (among group ts)
some_is group holds [] = refl
some_is group holds (t ∷ ts) = some_step group holds t ts (same_group group (group_of t)) refl (some_is group holds ts)

one_step : (group : Group) (holds : Term → Bool) (t : Term) (ts : List Term) (b : Bool) → same_group group (group_of t) ≡ b → one_in group holds ts ≡ one_holds holds (among group ts) → one_in group holds (t ∷ ts) ≡ one_holds holds (among group (t ∷ ts))
one_step group holds t ts true e h = rw (e, some_is group holds ts) refl
one_step group holds t ts false e h = rw (e, h) refl

pub one_is : (group : Group) (holds : Term → Bool) (ts : List Term) → one_in group holds ts ≡ one_holds holds (among group ts)
one_is group holds [] = refl
one_is group holds (t ∷ ts) = one_step group holds t ts (same_group group (group_of t)) refl (one_is group holds ts)

others_step : (holds : Term → Bool) (t : Term) (ts : List Term) (b : Bool) → same_group groups.Other (group_of t) ≡ b → all_others holds ts ≡ list_all holds (among groups.Other ts) → all_others holds (t ∷ ts) ≡ list_all holds (among groups.Other (t ∷ ts))
others_step holds t ts true e h = rw (e, h) refl
others_step holds t ts false e h = rw (e, h) refl

pub others_are : (holds : Term → Bool) (ts : List Term) → all_others holds ts ≡ list_all holds (among groups.Other ts)
others_are holds [] = refl
others_are holds (t ∷ ts) = others_step holds t ts (same_group groups.Other (group_of t)) refl (others_are holds ts)

-- the groups of terms, asked one after the other by what is known then
module _ (H : Known → Term → Bool) (k k1 k2 k3 : Known) (ts : List Term) where
  at_first : (g : Group) (b : Bool) (x : Known) → x ≡ k → b ≡ one_holds (H x) (among g ts) → b ≡ one_holds (H k) (among g ts)
  at_first g b x e found = found ∙ ap (λ y. one_holds (H y) (among g ts)) e

  pub second_fails : (b1 b2 : Bool) → k1 ≡ k → b1 ≡ one_holds (H k) (among groups.Description ts) → b1 ≡ true → b2 ≡ one_holds (H k1) (among groups.Account ts) → b2 ≡ false → false ≡ matches (H k) ts
  second_fails b1 b2 e1 f1 t1 f2 t2 = rw (sym f1 ∙ t1, sym (at_first groups.Account b2 k1 e1 f2) ∙ t2) refl

  pub third_fails : (b1 b2 b3 : Bool) → k1 ≡ k → k2 ≡ k1 → b1 ≡ one_holds (H k) (among groups.Description ts) → b1 ≡ true → b2 ≡ one_holds (H k1) (among groups.Account ts) → b2 ≡ true → b3 ≡ one_holds (H k2) (among groups.Status ts) → b3 ≡ false → false ≡ matches (H k) ts
  third_fails b1 b2 b3 e1 e2 f1 t1 f2 t2 f3 t3 = rw (sym f1 ∙ t1, sym (at_first groups.Account b2 k1 e1 f2) ∙ t2, sym (at_first groups.Status b3 k2 (e2 ∙ e1) f3) ∙ t3) refl

  pub others_last : (b1 b2 b3 b4 : Bool) → k1 ≡ k → k2 ≡ k1 → k3 ≡ k2 → b1 ≡ one_holds (H k) (among groups.Description ts) → b1 ≡ true → b2 ≡ one_holds (H k1) (among groups.Account ts) → b2 ≡ true → b3 ≡ one_holds (H k2) (among groups.Status ts) → b3 ≡ true → b4 ≡ list_all (H k3) (among groups.Other ts) → b4 ≡ matches (H k) ts
  others_last b1 b2 b3 b4 e1 e2 e3 f1 t1 f2 t2 f3 t3 f4 =
      rw (sym f1 ∙ t1, sym (at_first groups.Account b2 k1 e1 f2) ∙ t2, sym (at_first groups.Status b3 k2 (e2 ∙ e1) f3) ∙ t3) (f4 ∙ ap (λ y. list_all (H y) (among groups.Other ts)) (e3 ∙ (e2 ∙ e1)))
