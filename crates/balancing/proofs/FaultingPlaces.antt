-- A group's postings in the walk, and those up to its last.
use Rattle.std.proofs.Common.{◌≡◌, ℕ, ◌<◌, ◌≤◌, Bool, true, false, ◌&&◌, eqb, List, [], ◌∷◌, ◌++◌, filter, refl, sym, ap, ◌∙◌, arith, inl, inr}
use Rattle.std.specs.List.{slice_get, AllByRecursion}
use Rattle.std.specs.declared.cmp.Ordering.TheVariants.{Less}
use Rattle.std.proofs.lemmas.Bool.Decides.{nat_tests}
use Rattle.std.proofs.lemmas.List.{append-nil}
use Rattle.std.proofs.lemmas.List.Elements.{filter-append}
use Rattle.std.proofs.lemmas.Grind.{flat_map-append}
use Rattle.book.specs.declared.transaction.Txn.{Txn}
use Rattle.book.specs.SumsBefore.{Place, is_before}
use Rattle.balancing.specs.Groups.{Group, group_cmp}
use Rattle.balancing.specs.Faults.{after_group}
use Rattle.balancing.proofs.SolvingPlaces.{not_before_back, earlier_day, earlier_txn}
use Rattle.balancing.proofs.SolvingGroups.{Ascends, less_parts}
use Rattle.balancing.proofs.SolvingWalk.{Entry, placed_group, walk_of}
use Rattle.balancing.proofs.SolvingRising.{IsOfGroup, group_of_entries, all_append, all_by, all_kept, none_kept}

-- ---- groups before and after one

pub earlier_groups : (before : List Group) (g : Group) (after : List Group) → Ascends (before ++ g ∷ after) → AllByRecursion (λ h. group_cmp h g ≡ Less) before
earlier_groups [] g after up = tt
earlier_groups (h ∷ before) g after up = (middle before g after up.0, earlier_groups before g after up.1)
  where
    middle : (before : List Group) (g : Group) (after : List Group) → AllByRecursion (λ x. group_cmp h x ≡ Less) (before ++ g ∷ after) → group_cmp h g ≡ Less
    middle [] g after all = all.0
    middle (x ∷ before) g after all = middle before g after all.1

pub later_groups : (before : List Group) (g : Group) (after : List Group) → Ascends (before ++ g ∷ after) → AllByRecursion (λ h. group_cmp g h ≡ Less) after
later_groups [] g after up = up.0
later_groups (h ∷ before) g after up = later_groups before g after up.1

-- ---- places of a group

not_after_txn : (a b : Place) → a.day ≡ b.day → b.txn ≤ a.txn → b.posting ≡ 0 → is_before a b ≡ false
not_after_txn a b h k l = grind (arith, nat_tests)

apart_day : (a b c d : ℕ) → a < c → (eqb a c && eqb b d) ≡ false
apart_day a b c d h = grind (arith, nat_tests)

apart_txn : (a b c d : ℕ) → b < d → (eqb a c && eqb b d) ≡ false
apart_txn a b c d h = grind (arith, nat_tests)

apart_day_up : (a b c d : ℕ) → c < a → (eqb a c && eqb b d) ≡ false
apart_day_up a b c d h = grind (arith, nat_tests)

apart_txn_up : (a b c d : ℕ) → d < b → (eqb a c && eqb b d) ≡ false
apart_txn_up a b c d h = grind (arith, nat_tests)

same_both : (a b c d : ℕ) → a ≡ c → b ≡ d → (eqb a c && eqb b d) ≡ true
same_both a b c d h k = grind (arith, nat_tests)

abbrev pub is_in_group : Group → Entry → Bool
is_in_group g e = eqb e.0.day g.0 && eqb e.0.txn g.1

abbrev pub is_through : Group → Entry → Bool
is_through g e = is_before e.0 (after_group g)

own_through : (g : Group) (e : Entry) → IsOfGroup g e → is_through g e ≡ true
own_through g e is = earlier_txn e.0 (after_group g) is.day (omega (arith, is.txn))

earlier_through : (h g : Group) (e : Entry) → group_cmp h g ≡ Less → IsOfGroup h e → is_through g e ≡ true
earlier_through h g e less is =
    elim (less_parts h g less) [
      | inl k ↦ earlier_day e.0 (after_group g) (omega (arith, is.day, k))
      | inr k ↦ earlier_txn e.0 (after_group g) (is.day ∙ k.0) (omega (arith, is.txn, k.1))
    ]

later_not_through : (h g : Group) (e : Entry) → group_cmp g h ≡ Less → IsOfGroup h e → is_through g e ≡ false
later_not_through h g e less is =
    elim (less_parts g h less) [
      | inl k ↦ not_before_back (after_group g) e.0 (earlier_day (after_group g) e.0 (omega (arith, is.day, k)))
      | inr k ↦ not_after_txn e.0 (after_group g) (is.day ∙ sym k.0) (omega (arith, is.txn, k.1)) refl
    ]

own_in : (g : Group) (e : Entry) → IsOfGroup g e → is_in_group g e ≡ true
own_in g e is = same_both e.0.day e.0.txn g.0 g.1 is.day is.txn

earlier_not_in : (h g : Group) (e : Entry) → group_cmp h g ≡ Less → IsOfGroup h e → is_in_group g e ≡ false
earlier_not_in h g e less is =
    elim (less_parts h g less) [
      | inl k ↦ apart_day e.0.day e.0.txn g.0 g.1 (omega (arith, is.day, k))
      | inr k ↦ apart_txn e.0.day e.0.txn g.0 g.1 (omega (arith, is.txn, k.1))
    ]

later_not_in : (h g : Group) (e : Entry) → group_cmp g h ≡ Less → IsOfGroup h e → is_in_group g e ≡ false
later_not_in h g e less is =
    elim (less_parts g h less) [
      | inl k ↦ apart_day_up e.0.day e.0.txn g.0 g.1 (omega (arith, is.day, k))
      | inr k ↦ apart_txn_up e.0.day e.0.txn g.0 g.1 (omega (arith, is.txn, k.1))
    ]

-- ---- in the walk

pub walk_parts : (book : List Txn) (gs hs : List Group) → walk_of book (gs ++ hs) ≡ walk_of book gs ++ walk_of book hs
walk_parts book gs hs = flat_map-append (λ (g : Group). placed_group g (slice_get book g.1)) gs hs

pub walk_one : (book : List Txn) (g : Group) → walk_of book (g ∷ []) ≡ placed_group g (slice_get book g.1)
walk_one book g = append-nil (placed_group g (slice_get book g.1))

all_walk : (book : List Txn) (Q : Entry → Type 0) (P : Group → Type 0) → ((h : Group) (e : Entry) → P h → IsOfGroup h e → Q e) → (gs : List Group) → AllByRecursion P gs → AllByRecursion Q (walk_of book gs)
all_walk book Q P f [] all = tt
all_walk book Q P f (g ∷ gs) all =
    all_append Q (placed_group g (slice_get book g.1)) (walk_of book gs)
    (all_by (IsOfGroup g) Q (λ e is. f g e all.0 is) (placed_group g (slice_get book g.1)) (group_of_entries g (slice_get book g.1)))
    (all_walk book Q P f gs all.1)

only_front : (p : Entry → Bool) (xs ys : List Entry) → AllByRecursion (λ x. p x ≡ true) xs → AllByRecursion (λ x. p x ≡ false) ys → filter p (xs ++ ys) ≡ xs
only_front p xs ys h k =
    filter-append p xs ys ∙ (λ i. all_kept p xs h i ++ none_kept p ys k i) ∙ append-nil xs

only_end : (p : Entry → Bool) (xs ys : List Entry) → AllByRecursion (λ x. p x ≡ false) xs → filter p (xs ++ ys) ≡ filter p ys
only_end p xs ys h = filter-append p xs ys ∙ ap (λ (zs : List Entry). zs ++ filter p ys) (none_kept p xs h)

module _ (book : List Txn) (before : List Group) (g : Group) (after : List Group) (up : Ascends (before ++ g ∷ after)) where
  abbrev own : List Entry
  own = placed_group g (slice_get book g.1)

  own_all : (Q : Entry → Type 0) → ((e : Entry) → IsOfGroup g e → Q e) → AllByRecursion Q own
  own_all Q f = all_by (IsOfGroup g) Q f own (group_of_entries g (slice_get book g.1))

  later_none : AllByRecursion (λ e. is_through g e ≡ false) (walk_of book after)
  later_none = all_walk book (λ e. is_through g e ≡ false) (λ h. group_cmp g h ≡ Less) (λ h e less is. later_not_through h g e less is) after (later_groups before g after up)

  earlier_all : AllByRecursion (λ e. is_through g e ≡ true) (walk_of book before ++ own)
  earlier_all =
      all_append (λ e. is_through g e ≡ true) (walk_of book before) own
      (all_walk book (λ e. is_through g e ≡ true) (λ h. group_cmp h g ≡ Less) (λ h e less is. earlier_through h g e less is) before (earlier_groups before g after up))
      (own_all (λ e. is_through g e ≡ true) (own_through g))

  pub walk_split : walk_of book (before ++ g ∷ after) ≡ walk_of book before ++ (own ++ walk_of book after)
  walk_split = walk_parts book before (g ∷ after)

  -- what comes up to the last of a group is the walk up to it
  pub walk_through : filter (is_through g) (walk_of book (before ++ g ∷ after)) ≡ walk_of book before ++ own
  walk_through =
      ap (filter (is_through g)) (walk_split ∙ assoc (walk_of book before) own (walk_of book after))
      ∙ only_front (is_through g) (walk_of book before ++ own) (walk_of book after) earlier_all later_none
    where
      assoc : (xs ys zs : List Entry) → xs ++ (ys ++ zs) ≡ (xs ++ ys) ++ zs
      assoc [] ys zs = refl
      assoc (x ∷ xs) ys zs = ap (λ (es : List Entry). x ∷ es) (assoc xs ys zs)

  -- what is of a group is its part of the walk
  pub walk_own : filter (is_in_group g) (walk_of book (before ++ g ∷ after)) ≡ own
  walk_own =
      ap (filter (is_in_group g)) walk_split
      ∙ only_end (is_in_group g) (walk_of book before) (own ++ walk_of book after)
      (all_walk book (λ e. is_in_group g e ≡ false) (λ h. group_cmp h g ≡ Less) (λ h e less is. earlier_not_in h g e less is) before (earlier_groups before g after up))
      ∙ only_front (is_in_group g) own (walk_of book after) (own_all (λ e. is_in_group g e ≡ true) (own_in g))
      (all_walk book (λ e. is_in_group g e ≡ false) (λ h. group_cmp g h ≡ Less) (λ h e less is. later_not_in h g e less is) after (later_groups before g after up))
