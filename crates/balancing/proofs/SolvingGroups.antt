-- Groups in their order, each once; and what is found group after group.
use Rattle.std.proofs.Common.{◌≡◌, ℕ, ◌<◌, Bool, true, false, cond, ◌||◌, T, List, [], ◌∷◌, ◌++◌, map, filter, refl, sym, ap, ◌∙◌, arith, ◌⊎◌, inl, inr}
use Rattle.std.specs.declared.cmp.Ordering.{Ordering}
use Rattle.std.specs.declared.cmp.Ordering.TheVariants.{Less, Equal, Greater}
use Rattle.std.specs.Ordering.{nat_cmp, is_lt, is_eq, eq_by_cmp, ordering_then}
use Rattle.std.specs.Cmp.{IsTotalOrder, nat_cmp_total}
use Rattle.std.specs.FinMap.{IsAntisymmetric, nat_cmp-IsAntisymmetric}
use Rattle.std.specs.FinMap.Entries.{is_sorted, below_all}
use Rattle.std.specs.List.{flat_map, list_any, AllByRecursion}
use Rattle.std.proofs.lemmas.Bool.{false≢true}
use Rattle.std.proofs.lemmas.Bool.Decides.{nat_tests}
use Rattle.std.proofs.lemmas.Cmp.{then_total, tied_itself}
use Rattle.book.specs.Order.{each_once}
use Rattle.book.proofs.Order.{contains-each_once, sorted-each_once}
use Rattle.book.proofs.Places.{first, second}
use Rattle.balancing.specs.Groups.{Group, group_cmp}
use Rattle.balancing.proofs.SolvingOrders.{Reorders, nothing, further, joined, by_equal, after_front, both_parts, to_middle}

by_first : IsTotalOrder (λ (g h : Group). nat_cmp g.0 h.0)
by_first = record {
  antisymm = λ x y. nat_cmp_total.antisymm x.0 y.0;
  trans = λ x y z. nat_cmp_total.trans x.0 y.0 z.0;
  congr = λ x y z. nat_cmp_total.congr x.0 y.0 z.0;
}

by_second : IsTotalOrder (λ (g h : Group). nat_cmp g.1 h.1)
by_second = record {
  antisymm = λ x y. nat_cmp_total.antisymm x.1 y.1;
  trans = λ x y z. nat_cmp_total.trans x.1 y.1 z.1;
  congr = λ x y z. nat_cmp_total.congr x.1 y.1 z.1;
}

pub group_total : IsTotalOrder group_cmp
group_total = then_total by_first by_second

then_equal : (a b : Ordering) → ordering_then a b ≡ Equal → (a ≡ Equal) × (b ≡ Equal)
then_equal Less b h = absurd (let never : ⊥ = cc in never)
then_equal Equal b h = (refl, h)
then_equal Greater b h = absurd (let never : ⊥ = cc in never)

pub group_ties : IsAntisymmetric group_cmp
group_ties g h e =
    let parts = then_equal (nat_cmp g.0 h.0) (nat_cmp g.1 h.1) e in
    λ i. (nat_cmp-IsAntisymmetric g.0 h.0 parts.0 i, nat_cmp-IsAntisymmetric g.1 h.1 parts.1 i)

pub same_group : (g : Group) → group_cmp g g ≡ Equal
same_group g = ap (λ (o : Ordering). ordering_then o (nat_cmp g.1 g.1)) (tied_itself nat_cmp_total g.0) ∙ tied_itself nat_cmp_total g.1

less_first : (a b : ℕ) (o : Ordering) → ordering_then (nat_cmp a b) o ≡ Less → (a < b) ⊎ ((a ≡ b) × (o ≡ Less))
less_first a b o h =
    elim (nat_cmp a b) as (λ r. nat_cmp a b ≡ r → ordering_then r o ≡ Less → (a < b) ⊎ ((a ≡ b) × (o ≡ Less))) [
      | Less ↦ λ e k. inl (smaller a b e)
      | Equal ↦ λ e k. inr (nat_cmp-IsAntisymmetric a b e, k)
      | Greater ↦ λ e k. absurd (let never : ⊥ = cc in never)
    ] refl h
  where
    smaller : (a b : ℕ) → nat_cmp a b ≡ Less → a < b
    smaller a b e = grind (arith, nat_tests)

pub smaller_number : (a b : ℕ) → nat_cmp a b ≡ Less → a < b
smaller_number a b e = grind (arith, nat_tests)

-- a group stands before another one by its day, or by its transaction
pub less_parts : (g h : Group) → group_cmp g h ≡ Less → (g.0 < h.0) ⊎ ((g.0 ≡ h.0) × (g.1 < h.1))
less_parts g h e = elim (less_first g.0 h.0 (nat_cmp g.1 h.1) e) [ inl k ↦ inl k | inr k ↦ inr (k.0, smaller_number g.1 h.1 k.1) ]

pub is_less : (o : Ordering) → is_lt o ≡ true → o ≡ Less
is_less Less h = refl
is_less Equal h = absurd (false≢true h)
is_less Greater h = absurd (false≢true h)

pub from_T : (b : Bool) → T b → b ≡ true
from_T true h = refl
from_T false h = absurd h

-- each group stands before all that follow
abbrev pub Ascends : List Group → Type 0
Ascends [] = Unit {0}
Ascends (g ∷ gs) = AllByRecursion (λ h. group_cmp g h ≡ Less) gs × Ascends gs

below-all : (g : Group) (gs : List Group) → T (below_all group_cmp g (map (λ (x : Group). (x, x.0)) gs)) → AllByRecursion (λ h. group_cmp g h ≡ Less) gs
below-all g [] h = tt
below-all g (k ∷ gs) h = (is_less _ (from_T _ (first _ _ h)), below-all g gs (second _ _ h))

sorted-ascends : (gs : List Group) → T (is_sorted group_cmp (map (λ (x : Group). (x, x.0)) gs)) → Ascends gs
sorted-ascends [] h = tt
sorted-ascends (g ∷ gs) h = (below-all g gs (first _ _ h), sorted-ascends gs (second _ _ h))

pub each_once-ascends : (gs : List Group) → Ascends (each_once group_cmp gs)
each_once-ascends gs = sorted-ascends (each_once group_cmp gs) (sorted-each_once group_ties (λ (x : Group). x.0) group_total gs)

-- ---- what is found group after group

abbrev pub has_group : Group → List Group → Bool
has_group g gs = list_any (eq_by_cmp group_cmp g) gs

pub has-each_once : (gs : List Group) (g : Group) → has_group g gs ≡ true → has_group g (each_once group_cmp gs) ≡ true
has-each_once gs g h = contains-each_once group_ties gs g ∙ h

pub equal_group : (g h : Group) → eq_by_cmp group_cmp g h ≡ true → g ≡ h
equal_group g h e = group_ties g h (is_equal (group_cmp g h) e)
  where
    is_equal : (o : Ordering) → is_eq o ≡ true → o ≡ Equal
    is_equal Less h = absurd (false≢true h)
    is_equal Equal h = refl
    is_equal Greater h = absurd (false≢true h)

module _ {A : Type 0} (key : A → Group) where
  -- those of a group
  abbrev pub of_group : Group → List A → List A
  of_group g xs = filter (λ x. eq_by_cmp group_cmp (key x) g) xs

  abbrev pub Covered : List Group → List A → Type 0
  Covered gs xs = AllByRecursion (λ x. has_group (key x) gs ≡ true) xs

  none_again : (F : Group → List A) (x : A) (gs : List Group) → AllByRecursion (λ g. eq_by_cmp group_cmp (key x) g ≡ false) gs → flat_map (λ g. cond (eq_by_cmp group_cmp (key x) g) (x ∷ F g) (F g)) gs ≡ flat_map F gs
  none_again F x [] h = refl
  none_again F x (g ∷ gs) h =
      ap (λ (b : Bool). cond b (x ∷ F g) (F g) ++ flat_map (λ g. cond (eq_by_cmp group_cmp (key x) g) (x ∷ F g) (F g)) gs) h.0
      ∙ ap (λ (ys : List A). F g ++ ys) (none_again F x gs h.1)

  differ : (k g h : Group) → k ≡ g → group_cmp g h ≡ Less → eq_by_cmp group_cmp k h ≡ false
  differ k g h e less = ap (λ (x : Group). eq_by_cmp group_cmp x h) e ∙ ap is_eq less

  all_differ : (k g : Group) (gs : List Group) → k ≡ g → AllByRecursion (λ h. group_cmp g h ≡ Less) gs → AllByRecursion (λ h. eq_by_cmp group_cmp k h ≡ false) gs
  all_differ k g [] e h = tt
  all_differ k g (x ∷ gs) e h = (differ k g x e h.0, all_differ k g gs e h.1)

  once : (F : Group → List A) (x : A) (gs : List Group) → Ascends gs → has_group (key x) gs ≡ true → Reorders (x ∷ flat_map F gs) (flat_map (λ g. cond (eq_by_cmp group_cmp (key x) g) (x ∷ F g) (F g)) gs)
  once F x [] up has = absurd (false≢true has)
  once F x (g ∷ gs) up has =
      elim (eq_by_cmp group_cmp (key x) g) as (λ b. eq_by_cmp group_cmp (key x) g ≡ b → (b || has_group (key x) gs) ≡ true → Reorders (x ∷ (F g ++ flat_map F gs)) (cond b (x ∷ F g) (F g) ++ flat_map (λ g. cond (eq_by_cmp group_cmp (key x) g) (x ∷ F g) (F g)) gs)) [
        | true ↦ λ e _. by_equal (ap (λ (ys : List A). x ∷ (F g ++ ys)) (sym (none_again F x gs (all_differ (key x) g gs (equal_group (key x) g e) up.0))))
        | false ↦ λ e rest. joined (to_middle x (F g) (flat_map F gs)) (after_front (F g) (once F x gs up.1 rest))
      ] refl has

  nothing_there : (gs : List Group) → flat_map (λ (g : Group). let none : List A = [] in none) gs ≡ []
  nothing_there [] = refl
  nothing_there (g ∷ gs) = nothing_there gs

  -- all are there group after group
  pub group_by_group : (gs : List Group) → Ascends gs → (xs : List A) → Covered gs xs → Reorders xs (flat_map (λ g. of_group g xs) gs)
  group_by_group gs up [] h = by_equal (sym (nothing_there gs))
  group_by_group gs up (x ∷ xs) h = joined (further x (group_by_group gs up xs h.1)) (once (λ g. of_group g xs) x gs up h.0)

-- the same of lists that have other orders
pub each_reordered : {A : Type 0} (F G : Group → List A) → ((g : Group) → Reorders (F g) (G g)) → (gs : List Group) → Reorders (flat_map F gs) (flat_map G gs)
each_reordered F G h [] = nothing
each_reordered F G h (g ∷ gs) = both_parts (h g) (each_reordered F G h gs)
