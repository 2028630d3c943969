-- Terms without those of days, or without those that bound the days.
use Rattle.std.proofs.Common.{◌≡◌, ℕ, zero, suc, Bool, true, false, not, ◌||◌, List, [], ◌∷◌, refl, sym, ap, ◌∙◌}
use Rattle.std.specs.List.{filter}
use Rattle.query.specs.Asking.{one_after, all_others}
use Rattle.query.specs.Matching.{group_of, group_under, kind_group, same_group, among, one_holds, matches, boundless, bounds_days, is_date, dateless}
use Rattle.query_terms.specs.declared.kinds.Kind.{Kind}
use Rattle.query_terms.specs.declared.kinds.Kind.TheVariants as kinds
use Rattle.query_terms.specs.declared.kinds.Term.{Term}
use Rattle.query.specs.declared.matching.Group.{Group}
use Rattle.query.specs.declared.matching.Group.TheVariants as groups
use Rattle.query.proofs.Walks.{one_is, others_are}

-- a term of days counts by itself
kind_other : (k : Kind) → is_date k ≡ true → kind_group k ≡ groups.Other
kind_other (kinds.Date p) e = refl
kind_other (kinds.Said f p) e = absurd cc
kind_other (kinds.Account p) e = absurd cc
kind_other (kinds.Symbol p) e = absurd cc
kind_other (kinds.Amount t) e = absurd cc
kind_other (kinds.Depth d) e = absurd cc
kind_other (kinds.Real r) e = absurd cc
kind_other (kinds.Status m) e = absurd cc
kind_other (kinds.Tag n v) e = absurd cc
kind_other (kinds.Type l) e = absurd cc

under_other : (n : ℕ) (k : Kind) → is_date k ≡ true → group_under n k ≡ groups.Other
under_other zero k e = kind_other k e
under_other (suc n) k e = refl

bounds_other : (n : ℕ) (k : Kind) → bounds_days n k ≡ true → group_under n k ≡ groups.Other
bounds_other zero k e = kind_other k e
bounds_other (suc n) k e = absurd cc

-- terms that are left out always hold
abbrev or_left : (Term → Bool) → (Term → Bool) → Term → Bool
or_left left holds t = left t || holds t

abbrev without : (Term → Bool) → List Term → List Term
without left ts = filter (λ t. not (left t)) ts

-- the terms that are left out count each by itself
module _ (left : Term → Bool) (apart : (t : Term) → left t ≡ true → group_of t ≡ groups.Other) (holds : Term → Bool) where
  one_step : (g : Group) (none : Bool) (t : Term) (ts : List Term) (d s h : Bool) → same_group g groups.Other ≡ false → left t ≡ d → same_group g (group_of t) ≡ s → holds t ≡ h → ((b : Bool) → one_after b g (or_left left holds) ts ≡ one_after b g holds (without left ts)) → one_after none g (or_left left holds) (t ∷ ts) ≡ one_after none g holds (without left (t ∷ ts))
  one_step g none t ts true s h other date same hold rest =
      let outside : same_group g (group_of t) ≡ false = ap (λ x. same_group g x) (apart t date) ∙ other in
      rw (date, outside) (rest none)
  one_step g none t ts false true true other date same hold rest = rw (date, same, hold) refl
  one_step g none t ts false true false other date same hold rest = rw (date, same, hold) (rest false)
  one_step g none t ts false false h other date same hold rest = rw (date, same) (rest none)

  one_same : (g : Group) (ts : List Term) → same_group g groups.Other ≡ false → (none : Bool) → one_after none g (or_left left holds) ts ≡ one_after none g holds (without left ts)
  one_same g [] other none = refl
  one_same g (t ∷ ts) other none = one_step g none t ts (left t) (same_group g (group_of t)) (holds t) other refl refl refl (one_same g ts other)

  others_step : (t : Term) (ts : List Term) (d s h : Bool) → left t ≡ d → same_group groups.Other (group_of t) ≡ s → holds t ≡ h → all_others (or_left left holds) ts ≡ all_others holds (without left ts) → all_others (or_left left holds) (t ∷ ts) ≡ all_others holds (without left (t ∷ ts))
  others_step t ts true true h date same hold rest = rw (date, same) rest
  others_step t ts true false h date same hold rest = rw (date, same) rest
  others_step t ts false true true date same hold rest = rw (date, same, hold) rest
  others_step t ts false true false date same hold rest = rw (date, same, hold) refl
  others_step t ts false false h date same hold rest = rw (date, same) rest

  others_same : (ts : List Term) → all_others (or_left left holds) ts ≡ all_others holds (without left ts)
  others_same [] = refl
  others_same (t ∷ ts) = others_step t ts (left t) (same_group groups.Other (group_of t)) (holds t) refl refl refl (others_same ts)

  group_same : (g : Group) (ts : List Term) → same_group g groups.Other ≡ false → one_holds (or_left left holds) (among g ts) ≡ one_holds holds (among g (without left ts))
  group_same g ts other = sym (one_is g (or_left left holds) ts) ∙ (one_same g ts other true ∙ one_is g holds (without left ts))

  left_out : (ts : List Term) → matches (or_left left holds) ts ≡ matches holds (without left ts)
  left_out ts =
      let d = group_same groups.Description ts refl in
      let a = group_same groups.Account ts refl in
      let s = group_same groups.Status ts refl in
      let o = sym (others_are (or_left left holds) ts) ∙ (others_same ts ∙ others_are holds (without left ts)) in
      rw (d, a, s, o) refl

-- days always hold
pub undated_is : (holds : Term → Bool) (ts : List Term) → matches (λ t. is_date t.kind || holds t) ts ≡ matches holds (dateless ts)
undated_is holds ts = left_out (λ t. is_date t.kind) (λ t e. under_other t.nots t.kind e) holds ts

-- bounds on days always hold
pub boundless_is : (holds : Term → Bool) (ts : List Term) → matches (λ t. bounds_days t.nots t.kind || holds t) ts ≡ matches holds (boundless ts)
boundless_is holds ts = left_out (λ t. bounds_days t.nots t.kind) (λ t e. bounds_other t.nots t.kind e) holds ts
