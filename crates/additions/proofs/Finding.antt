-- The first group, in their order, that passes a test.
use Rattle.std.proofs.Common.{◌≡◌, Bool, true, false, cond, List, [], ◌∷◌, ◌++◌, Option, Some, None, refl, sym, ap, subst, ◌∙◌}
use Rattle.std.specs.Prelude.{find}
use Rattle.std.specs.List.{AllByRecursion}
use Rattle.std.specs.BTreeSet.{insert_key}
use Rattle.std.specs.Ordering.{is_lt, match_ordering, ordering_reverse}
use Rattle.std.specs.declared.cmp.Ordering.{Ordering}
use Rattle.std.specs.declared.cmp.Ordering.TheVariants.{Less, Equal, Greater}
use Rattle.std.proofs.lemmas.Option.{none-some, same_Some}
use Rattle.book.specs.Order.{each_once}
use Rattle.balancing.specs.Groups.{Group, group_cmp}
use Rattle.balancing.proofs.SolvingGroups.{Ascends, each_once-ascends, group_ties, group_total}

-- a group, or one that stands before it
abbrev pub lesser : Group → Option Group → Group
lesser g None = g
lesser g (Some h) = cond (is_lt (group_cmp h g)) h g

-- the least of some groups that pass a test
abbrev pub least : (Group → Bool) → List Group → Option Group
least p [] = None
least p (g ∷ gs) = cond (p g) (Some (lesser g (least p gs))) (least p gs)

-- ---- in an order

pub flip_less : (g h : Group) → group_cmp g h ≡ Less → is_lt (group_cmp h g) ≡ false
flip_less g h e = ap is_lt (group_total.antisymm h g ∙ ap ordering_reverse e)

flip_greater : (g h : Group) → group_cmp g h ≡ Greater → is_lt (group_cmp h g) ≡ true
flip_greater g h e = ap is_lt (group_total.antisymm h g ∙ ap ordering_reverse e)

either_way : {A : Type 0} (b : Bool) (x : A) → cond b x x ≡ x
either_way true x = refl
either_way false x = refl

above : (p : Group → Bool) (g : Group) (ks : List Group) → AllByRecursion (λ k. group_cmp g k ≡ Less) ks → lesser g (find p ks) ≡ g
above p g [] h = refl
above p g (k ∷ ks) h =
    elim (p k) as (λ b. lesser g (cond b (Some k) (find p ks)) ≡ g) [
      | true ↦ ap (λ (b : Bool). cond b k g) (flip_less g k h.0)
      | false ↦ above p g ks h.1
    ]

all_above : (g x : Group) (ks : List Group) → group_cmp g x ≡ Less → AllByRecursion (λ k. group_cmp x k ≡ Less) ks → AllByRecursion (λ k. group_cmp g k ≡ Less) ks
all_above g x [] e h = tt
all_above g x (k ∷ ks) e h = (group_total.trans g x k e h.0, all_above g x ks e h.1)

own_first : (p : Group → Bool) (g : Group) (xs : List Group) → find p (g ∷ xs) ≡ cond (p g) (Some (lesser g (find p (g ∷ xs)))) (find p (g ∷ xs))
own_first p g xs =
    elim (p g) as (λ b. cond b (Some g) (find p xs) ≡ cond b (Some (lesser g (cond b (Some g) (find p xs)))) (cond b (Some g) (find p xs))) [
      | true ↦ ap (λ (h : Group). Some h) (sym (either_way (is_lt (group_cmp g g)) g))
      | false ↦ refl
    ]

tied : (p : Group → Bool) (g x : Group) (xs : List Group) → g ≡ x → find p (x ∷ xs) ≡ cond (p g) (Some (lesser g (find p (x ∷ xs)))) (find p (x ∷ xs))
tied p g x xs e = subst (λ (y : Group). find p (y ∷ xs) ≡ cond (p g) (Some (lesser g (find p (y ∷ xs)))) (find p (y ∷ xs))) e (own_first p g xs)

behind : (p : Group → Bool) (g x : Group) (o later : Option Group) → group_cmp g x ≡ Greater → o ≡ cond (p g) (Some (lesser g later)) later
    → cond (p x) (Some x) o ≡ cond (p g) (Some (lesser g (cond (p x) (Some x) later))) (cond (p x) (Some x) later)
behind p g x o later e again =
    elim (p x) as (λ b. cond b (Some x) o ≡ cond (p g) (Some (lesser g (cond b (Some x) later))) (cond b (Some x) later)) [
      | true ↦
          let o_x : Option Group = Some x in
          sym (ap (λ (b : Bool). cond (p g) (Some (cond b x g)) o_x) (flip_greater g x e) ∙ either_way (p g) o_x)
      | false ↦ again
    ]

insert_first : (p : Group → Bool) (ks : List Group) → Ascends ks → (g : Group) → find p (insert_key group_cmp ks g) ≡ cond (p g) (Some (lesser g (find p ks))) (find p ks)
insert_first p [] up g = refl
insert_first p (x ∷ xs) up g =
    let again = insert_first p xs up.1 g in
    elim (group_cmp g x) as (λ (r : Ordering). group_cmp g x ≡ r → find p (match_ordering r (g ∷ x ∷ xs) (x ∷ xs) (x ∷ insert_key group_cmp xs g)) ≡ cond (p g) (Some (lesser g (find p (x ∷ xs)))) (find p (x ∷ xs))) [
      | Less ↦ λ e. ap (λ (h : Group). cond (p g) (Some h) (find p (x ∷ xs))) (sym (above p g (x ∷ xs) (e, all_above g x xs e up.0)))
      | Equal ↦ λ e. tied p g x xs (group_ties g x e)
      | Greater ↦ λ e. behind p g x (find p (insert_key group_cmp xs g)) (find p xs) e again
    ] refl

-- the first in the order is the least
pub find_least : (p : Group → Bool) (gs : List Group) → find p (each_once group_cmp gs) ≡ least p gs
find_least p [] = refl
find_least p (g ∷ gs) =
    insert_first p (each_once group_cmp gs) (each_once-ascends gs) g
    ∙ ap (λ (o : Option Group). cond (p g) (Some (lesser g o)) o) (find_least p gs)

pub least_parts : (p : Group → Bool) (xs ys : List Group) → AllByRecursion (λ g. p g ≡ false) xs → least p (xs ++ ys) ≡ least p ys
least_parts p [] ys h = refl
least_parts p (x ∷ xs) ys h =
    ap (λ (b : Bool). cond b (Some (lesser x (least p (xs ++ ys)))) (least p (xs ++ ys))) h.0 ∙ least_parts p xs ys h.1

-- ---- where it was found

pub record Found (p : Group → Bool) (ks : List Group) (g : Group) : Type 0 where
  pub before : List Group
  pub after : List Group
  pub is : ks ≡ before ++ g ∷ after
  pub none : AllByRecursion (λ k. p k ≡ false) before

further : (p : Group → Bool) (k : Group) (ks : List Group) (g : Group) → p k ≡ false → Found p ks g → Found p (k ∷ ks) g
further p k ks g e f = record {
  before = k ∷ f.before;
  after = f.after;
  is = ap (λ (xs : List Group). k ∷ xs) f.is;
  none = (e, f.none);
}

pub found_at : (p : Group → Bool) (ks : List Group) (g : Group) → find p ks ≡ Some g → Found p ks g
found_at p [] g h = absurd (none-some g h)
found_at p (k ∷ ks) g h = by (p k) refl h (found_at p ks g)
  where
    by : (b : Bool) → p k ≡ b → cond b (Some k) (find p ks) ≡ Some g → (find p ks ≡ Some g → Found p ks g) → Found p (k ∷ ks) g
    by true e i again = record { before = []; after = ks; is = ap (λ (x : Group). x ∷ ks) (same_Some k g i); none = tt }
    by false e i again = further p k ks g e (again i)
