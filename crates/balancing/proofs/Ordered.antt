-- Groups in their order, each once.
use Rattle.std.proofs.Common.{◌≡◌, ℕ, zero, suc, ◌+◌, ◌-◌, ◌<◌, true, List, [], ◌∷◌, ◌++◌, length, get_or, drop, Some, refl, sym, ap, ◌∙◌, subst, arith, drop-cons}
use Rattle.std.specs.declared.cmp.Ordering.{Ordering}
use Rattle.std.specs.declared.cmp.Ordering.TheVariants.{Less, Equal, Greater}
use Rattle.std.specs.Ordering.{nat_cmp, is_lt, ordering_then, match_ordering}
use Rattle.std.specs.Cmp.{nat_cmp_total}
use Rattle.std.specs.List.{slice_get}
use Rattle.std.specs.BTreeSet.{insert_key}
use Rattle.std.proofs.lemmas.Bool.{false≢true}
use Rattle.std.proofs.lemmas.Cmp.{tied_itself}
use Rattle.book.specs.Order.{each_once}
use Rattle.balancing.specs.Groups.{Group, group_cmp, is_rising, rises_from}
use Rattle.entry_balance.proofs.Named.{left_true, right_true}

less : (o : Ordering) → is_lt o ≡ true → o ≡ Less
less Less h = refl
less Equal h = absurd (false≢true h)
less Greater h = absurd (false≢true h)

rising-from : (g : Group) (gs : List Group) → rises_from g gs ≡ true → each_once group_cmp (g ∷ gs) ≡ g ∷ gs
rising-from g [] h = refl
rising-from g (k ∷ gs) h =
    ap (λ (xs : List Group). insert_key group_cmp xs g) (rising-from k gs (right_true (is_lt (group_cmp g k)) (rises_from k gs) h))
    ∙ ap (λ (o : Ordering). match_ordering o (g ∷ k ∷ gs) (k ∷ gs) (k ∷ insert_key group_cmp gs g)) (less (group_cmp g k) (left_true (is_lt (group_cmp g k)) (rises_from k gs) h))

-- groups that rise are in their order already
pub rising-is : (gs : List Group) → is_rising gs ≡ true → gs ≡ each_once group_cmp gs
rising-is [] h = refl
rising-is (g ∷ gs) h = sym (rising-from g gs h)

pub same_group : (g : Group) → group_cmp g g ≡ Equal
same_group g = ap (λ (o : Ordering). ordering_then o (nat_cmp g.1 g.1)) (tied_itself nat_cmp_total g.0) ∙ tied_itself nat_cmp_total g.1

again : (es : List Group) (g : Group) → insert_key group_cmp (insert_key group_cmp es g) g ≡ insert_key group_cmp es g
again [] g = ap (λ (o : Ordering). match_ordering o (g ∷ g ∷ []) (g ∷ []) (g ∷ g ∷ [])) (same_group g)
again (e ∷ es) g =
    elim (group_cmp g e) as (λ o. group_cmp g e ≡ o → insert_key group_cmp (match_ordering o (g ∷ e ∷ es) (e ∷ es) (e ∷ insert_key group_cmp es g)) g ≡ match_ordering o (g ∷ e ∷ es) (e ∷ es) (e ∷ insert_key group_cmp es g)) [
      | Less ↦ λ is. ap (λ (o : Ordering). match_ordering o (g ∷ g ∷ e ∷ es) (g ∷ e ∷ es) (g ∷ insert_key group_cmp (e ∷ es) g)) (same_group g)
      | Equal ↦ λ is. ap (λ (o : Ordering). match_ordering o (g ∷ e ∷ es) (e ∷ es) (e ∷ insert_key group_cmp es g)) is
      | Greater ↦ λ is. ap (λ (o : Ordering). match_ordering o (g ∷ e ∷ insert_key group_cmp es g) (e ∷ insert_key group_cmp es g) (e ∷ insert_key group_cmp (insert_key group_cmp es g) g)) is ∙ ap (λ (xs : List Group). e ∷ xs) (again es g)
    ] refl

split_last : (gs : List Group) (g : Group) → slice_get gs (length gs - 1) ≡ Some g → (front : List Group) × (gs ≡ front ++ g ∷ [])
split_last [] g h = absurd (let never : ⊥ = cc in never)
split_last (x ∷ []) g h = ([], (let same : x ≡ g = cc in ap (λ (y : Group). y ∷ []) same))
split_last (x ∷ y ∷ gs) g h =
    let places : suc (suc (length gs)) - 1 ≡ suc (suc (length gs) - 1) = omega arith in
    let rest = split_last (y ∷ gs) g (ap (slice_get (x ∷ y ∷ gs)) (sym places) ∙ h) in
    (x ∷ rest.0, ap (λ (xs : List Group). x ∷ xs) rest.1)

front_again : (front : List Group) (g : Group) (rest : List Group) → each_once group_cmp ((front ++ g ∷ []) ++ rest) ≡ each_once group_cmp ((front ++ g ∷ []) ++ g ∷ rest)
front_again [] g rest = sym (again (each_once group_cmp rest) g)
front_again (x ∷ front) g rest = ap (λ (xs : List Group). insert_key group_cmp xs x) (front_again front g rest)

-- the last group once more
pub noted_last : (gs : List Group) (g : Group) → slice_get gs (length gs - 1) ≡ Some g → (rest : List Group) → each_once group_cmp (gs ++ rest) ≡ each_once group_cmp (gs ++ g ∷ rest)
noted_last gs g h rest =
    let split = split_last gs g h in
    subst (λ (xs : List Group). each_once group_cmp (xs ++ rest) ≡ each_once group_cmp (xs ++ g ∷ rest)) (sym split.1) (front_again split.0 g rest)

-- one more group from the back
pub sorted-more : (gs : List Group) (back : ℕ) (d : Group) → back < length gs → each_once group_cmp (drop (length gs - (back + 1)) gs) ≡ insert_key group_cmp (each_once group_cmp (drop (length gs - back) gs)) (get_or gs (length gs - 1 - back) d)
sorted-more gs back d h =
    let at : length gs - (back + 1) ≡ length gs - 1 - back = omega arith in
    let next : suc (length gs - 1 - back) ≡ length gs - back = omega arith in
    ap (λ i. each_once group_cmp (drop i gs)) at ∙ ap (each_once group_cmp) (drop-cons gs (length gs - 1 - back) d (omega arith))
    ∙ ap (λ i. insert_key group_cmp (each_once group_cmp (drop i gs)) (get_or gs (length gs - 1 - back) d)) next

-- an element that is there is the same by any default
pub any_default : (gs : List Group) (i : ℕ) (d e : Group) → i < length gs → get_or gs i d ≡ get_or gs i e
any_default [] i d e h = absurd (omega arith)
any_default (g ∷ gs) zero d e h = refl
any_default (g ∷ gs) (suc i) d e h = any_default gs i d e (omega arith)
