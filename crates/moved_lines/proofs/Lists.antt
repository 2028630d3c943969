-- Lists whose items are changed in what isn't looked at, and lists that are changed where they stand.
use Rattle.std.proofs.Common.{◌≡◌, ℕ, zero, suc, ◌+◌, ◌<◌, ◌≤◌, Bool, true, false, cond, ◌&&◌, ◌||◌, List, [], ◌∷◌, ◌++◌, map, filter, length, take, drop, get_or, set, refl, sym, ap, subst, ◌∙◌, arith}
use Rattle.std.specs.Prelude.{count_by}
use Rattle.std.specs.List.{flat_map, fold, list_all, list_any, AllByRecursion}
use Rattle.std.proofs.lemmas.List.{append-nil, drop_all}
use Rattle.entry_balance.proofs.Adding.{take_past}
use Rattle.entry_balance.proofs.InPlace.{changed_more, changed_at}

pub map-both : {X Y : Type 0} (f : X → Y) (xs ys : List X) → map f (xs ++ ys) ≡ map f xs ++ map f ys
map-both f [] ys = refl
map-both f (x ∷ xs) ys = λ i. f x ∷ map-both f xs ys i

module _ {X : Type 0} (r : X → X) where
  pub flat-same : {Y : Type 0} (f : X → List Y) → ((x : X) → f (r x) ≡ f x) → (xs : List X) → flat_map f (map r xs) ≡ flat_map f xs
  flat-same f e [] = refl
  flat-same f e (x ∷ xs) = λ i. e x i ++ flat-same f e xs i

  pub any-same : (p : X → Bool) → ((x : X) → p (r x) ≡ p x) → (xs : List X) → list_any p (map r xs) ≡ list_any p xs
  any-same p e [] = refl
  any-same p e (x ∷ xs) = λ i. e x i || any-same p e xs i

  pub all-same : (p : X → Bool) → ((x : X) → p (r x) ≡ p x) → (xs : List X) → list_all p (map r xs) ≡ list_all p xs
  all-same p e [] = refl
  all-same p e (x ∷ xs) = λ i. e x i && all-same p e xs i

  pub fold-same : {B : Type 0} (f : B → X → B) → ((b : B) (x : X) → f b (r x) ≡ f b x) → (b : B) (xs : List X) → fold f b (map r xs) ≡ fold f b xs
  fold-same f e b [] = refl
  fold-same f e b (x ∷ xs) = ap (λ c. fold f c (map r xs)) (e b x) ∙ fold-same f e (f b x) xs

  pub count-same : (p : X → Bool) → ((x : X) → p (r x) ≡ p x) → (xs : List X) → count_by p (map r xs) ≡ count_by p xs
  count-same p e xs = fold-same (λ (a : ℕ) (x : X). a + cond (p x) 1 0) (λ (a : ℕ) (x : X). ap (λ (b : Bool). a + cond b 1 0) (e x)) 0 xs

  pub filter-moved : (p : X → Bool) → ((x : X) → p (r x) ≡ p x) → (xs : List X) → filter p (map r xs) ≡ map r (filter p xs)
  filter-moved p e [] = refl
  filter-moved p e (x ∷ xs) =
      (λ i. cond (e x i) (r x ∷ filter-moved p e xs i) (filter-moved p e xs i)) ∙ kept (p x) (filter p xs)
    where
      kept : (b : Bool) (ys : List X) → cond b (r x ∷ map r ys) (map r ys) ≡ map r (cond b (x ∷ ys) ys)
      kept true ys = refl
      kept false ys = refl

-- ---- items that are changed one after another

pub at-place : {X : Type 0} (P : X → Type 0) (xs : List X) (i : ℕ) (d : X) → i < length xs → AllByRecursion P xs → P (get_or xs i d)
at-place P [] i d h all = absurd (omega arith)
at-place P (x ∷ xs) zero d h all = all.0
at-place P (x ∷ xs) (suc i) d h all = at-place P xs i d (omega arith) all.1

module _ {X : Type 0} (f : X → X) (all now : List X) (i : ℕ) where
  pub changed-can : (P : X → Type 0) (d : X) → i < length all → now ≡ map f (take i all) ++ drop i all → AllByRecursion P all → P (get_or now i d)
  changed-can P d h is can =
      let same : get_or now i d ≡ get_or all i d = ap (λ (xs : List X). get_or xs i d) is ∙ changed_at f all i d h in
      subst P (sym same) (at-place P all i d h can)

  pub changed-step : (d new : X) → i < length all → now ≡ map f (take i all) ++ drop i all → new ≡ f (get_or now i d)
      → set now i new ≡ map f (take (i + 1) all) ++ drop (i + 1) all
  changed-step d new h is e =
      let same : get_or now i d ≡ get_or all i d = ap (λ (xs : List X). get_or xs i d) is ∙ changed_at f all i d h in
      ap (λ (xs : List X). set xs i new) is
      ∙ ap (set (map f (take i all) ++ drop i all) i) (e ∙ ap f same)
      ∙ changed_more f all i d h

  pub changed-all : length all ≤ i → now ≡ map f (take i all) ++ drop i all → now ≡ map f all
  changed-all h is =
      is ∙ ap (λ (xs : List X). map f (take i all) ++ xs) (drop_all i all h)
      ∙ append-nil (map f (take i all)) ∙ ap (map f) (take_past all i h)
