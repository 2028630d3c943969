-- One list in two orders.
use Rattle.std.proofs.Common.{◌≡◌, Bool, true, false, cond, ◌||◌, List, [], ◌∷◌, ◌++◌, map, filter, refl, sym, ap, ◌∙◌, subst}
use Rattle.std.specs.List.{fold, flat_map, list_any, AllByRecursion}
use Rattle.std.proofs.lemmas.List.{append_assoc, append-nil}

-- the second list has the elements of the first one in some order
pub data Reorders {A : Type 0} : List A → List A → Type 0 where
  nothing : Reorders [] []
  further : {xs ys : List A} (x : A) → Reorders xs ys → Reorders (x ∷ xs) (x ∷ ys)
  swapped : (x y : A) (xs : List A) → Reorders (x ∷ y ∷ xs) (y ∷ x ∷ xs)
  joined : {xs ys zs : List A} → Reorders xs ys → Reorders ys zs → Reorders xs zs

pub same_order : {A : Type 0} (xs : List A) → Reorders xs xs
same_order [] = nothing
same_order (x ∷ xs) = further x (same_order xs)

pub by_equal : {A : Type 0} {xs ys : List A} → xs ≡ ys → Reorders xs ys
by_equal {A} {xs} e = subst (λ (zs : List A). Reorders xs zs) e (same_order xs)

pub back : {A : Type 0} {xs ys : List A} → Reorders xs ys → Reorders ys xs
back nothing = nothing
back (further x r) = further x (back r)
back (swapped x y xs) = swapped y x xs
back (joined r s) = joined (back s) (back r)

pub after_front : {A : Type 0} (zs : List A) {xs ys : List A} → Reorders xs ys → Reorders (zs ++ xs) (zs ++ ys)
after_front [] r = r
after_front (z ∷ zs) r = further z (after_front zs r)

pub before_end : {A : Type 0} (zs : List A) {xs ys : List A} → Reorders xs ys → Reorders (xs ++ zs) (ys ++ zs)
before_end zs nothing = same_order zs
before_end zs (further x r) = further x (before_end zs r)
before_end zs (swapped x y xs) = swapped x y (xs ++ zs)
before_end zs (joined r s) = joined (before_end zs r) (before_end zs s)

pub both_parts : {A : Type 0} {ws xs ys zs : List A} → Reorders ws xs → Reorders ys zs → Reorders (ws ++ ys) (xs ++ zs)
both_parts {A} {ws} {xs} {ys} {zs} r s = joined (before_end ys r) (after_front xs s)

-- a first element goes behind others
pub to_middle : {A : Type 0} (x : A) (xs ys : List A) → Reorders (x ∷ (xs ++ ys)) (xs ++ x ∷ ys)
to_middle x [] ys = same_order (x ∷ ys)
to_middle x (z ∷ xs) ys = joined (swapped x z (xs ++ ys)) (further z (to_middle x xs ys))

-- two parts change places
pub parts_swapped : {A : Type 0} (xs ys : List A) → Reorders (xs ++ ys) (ys ++ xs)
parts_swapped [] ys = by_equal (sym (append-nil ys))
parts_swapped (x ∷ xs) ys = joined (further x (parts_swapped xs ys)) (to_middle x ys xs)

pub mapped : {A B : Type 0} (f : A → B) {xs ys : List A} → Reorders xs ys → Reorders (map f xs) (map f ys)
mapped f nothing = nothing
mapped f (further x r) = further (f x) (mapped f r)
mapped f (swapped x y xs) = swapped (f x) (f y) (map f xs)
mapped f (joined r s) = joined (mapped f r) (mapped f s)

kept_both : {A : Type 0} (a b : Bool) (x y : A) (xs : List A) → Reorders (cond a (x ∷ cond b (y ∷ xs) xs) (cond b (y ∷ xs) xs)) (cond b (y ∷ cond a (x ∷ xs) xs) (cond a (x ∷ xs) xs))
kept_both true true x y xs = swapped x y xs
kept_both true false x y xs = same_order (x ∷ xs)
kept_both false true x y xs = same_order (y ∷ xs)
kept_both false false x y xs = same_order xs

kept_one : {A : Type 0} (a : Bool) (x : A) {xs ys : List A} → Reorders xs ys → Reorders (cond a (x ∷ xs) xs) (cond a (x ∷ ys) ys)
kept_one true x r = further x r
kept_one false x r = r

pub filtered : {A : Type 0} (p : A → Bool) {xs ys : List A} → Reorders xs ys → Reorders (filter p xs) (filter p ys)
filtered p nothing = nothing
filtered p (further x r) = kept_one (p x) x (filtered p r)
filtered p (swapped x y xs) = kept_both (p x) (p y) x y (filter p xs)
filtered p (joined r s) = joined (filtered p r) (filtered p s)

pub spread : {A B : Type 0} (f : A → List B) {xs ys : List A} → Reorders xs ys → Reorders (flat_map f xs) (flat_map f ys)
spread f nothing = nothing
spread f (further x r) = after_front (f x) (spread f r)
spread f (swapped x y xs) =
    joined (by_equal (sym (append_assoc (f x) (f y) (flat_map f xs))))
    (joined (before_end (flat_map f xs) (parts_swapped (f x) (f y))) (by_equal (append_assoc (f y) (f x) (flat_map f xs))))
spread f (joined r s) = joined (spread f r) (spread f s)

-- a fold that doesn't look at the order
pub folded : {A B : Type 0} (f : B → A → B) → ((z : B) (x y : A) → f (f z x) y ≡ f (f z y) x) → {xs ys : List A} → Reorders xs ys → (z : B) → fold f z xs ≡ fold f z ys
folded f swap nothing z = refl
folded f swap (further x r) z = folded f swap r (f z x)
folded f swap (swapped x y xs) z = ap (λ w. fold f w xs) (swap z x y)
folded f swap (joined r s) z = folded f swap r z ∙ folded f swap s z

or_swap : (a b c d : Bool) → c ≡ d → (a || (b || c)) ≡ (b || (a || d))
or_swap true true c d e = refl
or_swap true false c d e = refl
or_swap false true c d e = refl
or_swap false false c d e = e

pub any_same : {A : Type 0} (p : A → Bool) {xs ys : List A} → Reorders xs ys → list_any p xs ≡ list_any p ys
any_same p nothing = refl
any_same p (further x r) = ap (λ b. p x || b) (any_same p r)
any_same p (swapped x y xs) = or_swap (p x) (p y) (list_any p xs) (list_any p xs) refl
any_same p (joined r s) = any_same p r ∙ any_same p s

pub all_same : {A : Type 0} (P : A → Type 0) {xs ys : List A} → Reorders xs ys → AllByRecursion P xs → AllByRecursion P ys
all_same P nothing h = h
all_same P (further x r) h = (h.0, all_same P r h.1)
all_same P (swapped x y xs) h = (h.1.0, (h.0, h.1.1))
all_same P (joined r s) h = all_same P s (all_same P r h)
