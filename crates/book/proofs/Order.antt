-- Keys in their order: what they contain, and look-ups in lists of entries that are made from them.
use Rattle.std.proofs.Common.{◌≡◌, Bool, true, false, ◌&&◌, ◌||◌, cond, T, List, [], ◌∷◌, map, filter, Option, Some, None, refl, sym, ap, subst, ◌∙◌}
use Rattle.std.specs.declared.cmp.Ordering.{Ordering}
use Rattle.std.specs.declared.cmp.Ordering.TheVariants.{Less, Equal, Greater}
use Rattle.std.specs.Ordering.{is_eq, eq_by_cmp}
use Rattle.std.specs.Cmp.{IsTotalOrder}
use Rattle.std.specs.List.{list_any, AllByRecursion}
use Rattle.std.specs.BTreeSet.{insert_key}
use Rattle.std.specs.Ordering.{match_ordering}
use Rattle.std.specs.FinMap.{IsAntisymmetric}
use Rattle.std.specs.FinMap.Entries.{by_order, find, put, below_all, is_sorted, is_sorted-put}
use Rattle.std.proofs.lemmas.Bool.{false≢true}
use Rattle.book.specs.Order.{each_once}
use Rattle.book.proofs.Places.{first, second}

pub both : (a b : Bool) → T a → T b → T (a && b)
both true b p q = q
both false b p q = p

pub is_equal : (r : Ordering) → is_eq r ≡ true → r ≡ Equal
is_equal Less h = absurd (false≢true h)
is_equal Equal h = refl
is_equal Greater h = absurd (false≢true h)

-- P holds of the value, if there is one
abbrev pub AllFound : {V : Type 0} → (V → Type 0) → Option V → Type 0
AllFound P None = Unit {0}
AllFound P (Some v) = P v

abbrev pub mapped_option : {V W : Type 0} → (V → W) → Option V → Option W
mapped_option f None = None
mapped_option f (Some v) = Some (f v)

-- a value that passes a test
abbrev pub passing : {V : Type 0} → (V → Bool) → V → Option V
passing p v = cond (p v) (Some v) None

none_left : {V : Type 0} (b : Bool) → cond {A = Option V} b None None ≡ None
none_left true = refl
none_left false = refl

or_again : (a b : Bool) → (a || b) ≡ (a || (a || b))
or_again true b = refl
or_again false b = refl

or_swap : (a b c : Bool) → (a || (b || c)) ≡ (b || (a || c))
or_swap true true c = refl
or_swap true false c = refl
or_swap false b c = refl

module _ {K : Type 0} {R : K → K → Ordering} (same : IsAntisymmetric R) where
  contains-insert_key : (q : K) (xs : List K) (k : K) → list_any (eq_by_cmp R q) (insert_key R xs k) ≡ (eq_by_cmp R q k || list_any (eq_by_cmp R q) xs)
  contains-insert_key q [] k = refl
  contains-insert_key q (x ∷ xs) k =
      elim (R k x) as (λ r. R k x ≡ r → list_any (eq_by_cmp R q) (match_ordering r (k ∷ x ∷ xs) (x ∷ xs) (x ∷ insert_key R xs k)) ≡ (eq_by_cmp R q k || (eq_by_cmp R q x || list_any (eq_by_cmp R q) xs))) [
        | Less ↦ λ e. refl
        | Equal ↦ λ e. or_again (eq_by_cmp R q x) (list_any (eq_by_cmp R q) xs) ∙ ap (λ (y : K). eq_by_cmp R q y || (eq_by_cmp R q x || list_any (eq_by_cmp R q) xs)) (sym (same k x e))
        | Greater ↦ λ e. ap (λ b. eq_by_cmp R q x || b) (contains-insert_key q xs k) ∙ or_swap (eq_by_cmp R q x) (eq_by_cmp R q k) (list_any (eq_by_cmp R q) xs)
      ] refl

  -- the keys are those of the list
  pub contains-each_once : (ks : List K) (q : K) → list_any (eq_by_cmp R q) (each_once R ks) ≡ list_any (eq_by_cmp R q) ks
  contains-each_once [] q = refl
  contains-each_once (k ∷ ks) q = contains-insert_key q (each_once R ks) k ∙ ap (λ b. eq_by_cmp R q k || b) (contains-each_once ks q)

  module _ {V : Type 0} (f : K → V) where
    made-insert_key : (xs : List K) (k : K) → map (λ (x : K). (x, f x)) (insert_key R xs k) ≡ put R k (f k) (map (λ (x : K). (x, f x)) xs)
    made-insert_key [] k = refl
    made-insert_key (x ∷ xs) k =
        elim (R k x) as (λ r. R k x ≡ r → map (λ (x : K). (x, f x)) (match_ordering r (k ∷ x ∷ xs) (x ∷ xs) (x ∷ insert_key R xs k)) ≡ by_order r ((k, f k) ∷ (x, f x) ∷ map (λ (x : K). (x, f x)) xs) ((x, f k) ∷ map (λ (x : K). (x, f x)) xs) ((x, f x) ∷ put R k (f k) (map (λ (x : K). (x, f x)) xs))) [
          | Less ↦ λ e. refl
          | Equal ↦ λ e. ap (λ (y : K). (x, f y) ∷ map (λ (x : K). (x, f x)) xs) (sym (same k x e))
          | Greater ↦ λ e. ap (λ t. (x, f x) ∷ t) (made-insert_key xs k)
        ] refl

    -- entries that are made of keys in their order rise
    pub sorted-each_once : IsTotalOrder R → (ks : List K) → T (is_sorted R (map (λ (x : K). (x, f x)) (each_once R ks)))
    sorted-each_once o [] = tt
    sorted-each_once o (k ∷ ks) = subst (λ (es : List (K × V)). T (is_sorted R es)) (sym (made-insert_key (each_once R ks) k)) (is_sorted-put R o k (f k) (map (λ (x : K). (x, f x)) (each_once R ks)) (sorted-each_once o ks))

module _ {K V : Type 0} (R : K → K → Ordering) where
  below-filter : (p : K × V → Bool) (x : K) (es : List (K × V)) → T (below_all R x es) → T (below_all R x (filter p es))
  below-filter p x [] h = tt
  below-filter p x (e ∷ es) h =
      let rest = below-filter p x es (second _ _ h) in
      elim (p e) as (λ b. T (below_all R x (cond b (e ∷ filter p es) (filter p es)))) [ true ↦ both _ _ (first _ _ h) rest | false ↦ rest ]

  -- what is left of entries that rise
  pub sorted-filter : (p : K × V → Bool) (es : List (K × V)) → T (is_sorted R es) → T (is_sorted R (filter p es))
  sorted-filter p [] h = tt
  sorted-filter p (e ∷ es) h =
      let rest = sorted-filter p es (second _ _ h) in
      elim (p e) as (λ b. T (is_sorted R (cond b (e ∷ filter p es) (filter p es)))) [ true ↦ both _ _ (below-filter p e.0 es (first _ _ h)) rest | false ↦ rest ]

  -- where P holds of each value, it does of the one that is found
  pub all-found : (P : V → Type 0) (es : List (K × V)) (q : K) → AllByRecursion (λ e. P e.1) es → AllFound P (find R q es)
  all-found P [] q h = tt
  all-found P (e ∷ es) q h =
      elim (eq_by_cmp R q e.0) as (λ b. AllFound P (cond b (Some e.1) (find R q es))) [ true ↦ h.0 | false ↦ all-found P es q h.1 ]

module _ {K V W : Type 0} (R : K → K → Ordering) (f : V → W) where
  below-mapped : (x : K) (es : List (K × V)) → T (below_all R x es) → T (below_all R x (map (λ e. (e.0, f e.1)) es))
  below-mapped x [] h = tt
  below-mapped x (e ∷ es) h = both _ _ (first _ _ h) (below-mapped x es (second _ _ h))

  -- new values leave the order as it is
  pub sorted-mapped : (es : List (K × V)) → T (is_sorted R es) → T (is_sorted R (map (λ e. (e.0, f e.1)) es))
  sorted-mapped [] h = tt
  sorted-mapped (e ∷ es) h = both _ _ (below-mapped e.0 es (first _ _ h)) (sorted-mapped es (second _ _ h))

  pub find-mapped : (es : List (K × V)) (q : K) → find R q (map (λ e. (e.0, f e.1)) es) ≡ mapped_option f (find R q es)
  find-mapped [] q = refl
  find-mapped (e ∷ es) q =
      elim (eq_by_cmp R q e.0) as (λ b. cond b (Some (f e.1)) (find R q (map (λ e. (e.0, f e.1)) es)) ≡ mapped_option f (cond b (Some e.1) (find R q es))) [ true ↦ refl | false ↦ find-mapped es q ]

module _ {K V : Type 0} {R : K → K → Ordering} (same : IsAntisymmetric R) (f : K → V) where
  -- an entry that is made of a key is found where the key is
  pub find-made : (ks : List K) (q : K) → find R q (map (λ k. (k, f k)) ks) ≡ cond (list_any (eq_by_cmp R q) ks) (Some (f q)) None
  find-made [] q = refl
  find-made (k ∷ ks) q =
      elim (eq_by_cmp R q k) as (λ b. eq_by_cmp R q k ≡ b → cond b (Some (f k)) (find R q (map (λ k. (k, f k)) ks)) ≡ cond (b || list_any (eq_by_cmp R q) ks) (Some (f q)) None) [
        | true ↦ λ e. ap (λ x. Some (f x)) (sym (same q k (is_equal _ e)))
        | false ↦ λ e. find-made ks q
      ] refl

  -- the same among those whose value passes a test
  pub find-passing : (p : V → Bool) (ks : List K) (q : K) → find R q (filter (λ (e : K × V). p e.1) (map (λ (k : K). (k, f k)) ks)) ≡ cond (list_any (eq_by_cmp R q) ks) (passing p (f q)) None
  find-passing p [] q = refl
  find-passing p (k ∷ ks) q =
      let rest : find R q (filter (λ (e : K × V). p e.1) (map (λ (k : K). (k, f k)) ks)) ≡ cond (list_any (eq_by_cmp R q) ks) (passing p (f q)) None = find-passing p ks q in
      let left = filter (λ (e : K × V). p e.1) (map (λ (k : K). (k, f k)) ks) in
      elim (eq_by_cmp R q k) as (λ b. eq_by_cmp R q k ≡ b → find R q (cond (p (f k)) ((k, f k) ∷ left) left) ≡ cond (b || list_any (eq_by_cmp R q) ks) (passing p (f q)) None) [
        | true ↦ λ e.
            let is : q ≡ k = same q k (is_equal _ e) in
            elim (p (f k)) as (λ t. p (f k) ≡ t → find R q (cond t ((k, f k) ∷ left) left) ≡ passing p (f q)) [
              | true ↦ λ t. ap (λ b. cond b (Some (f k)) (find R q left)) e ∙ sym (ap (λ b. cond b (Some (f k)) None) t) ∙ ap (λ x. passing p (f x)) (sym is)
              | false ↦ λ t. rest
                  ∙ ap (λ v. cond (list_any (eq_by_cmp R q) ks) v None) (ap (λ x. passing p (f x)) is ∙ ap (λ b. cond b (Some (f k)) None) t)
                  ∙ none_left (list_any (eq_by_cmp R q) ks)
                  ∙ sym (ap (λ x. passing p (f x)) is ∙ ap (λ b. cond b (Some (f k)) None) t)
            ] refl
        | false ↦ λ e.
            elim (p (f k)) as (λ t. find R q (cond t ((k, f k) ∷ left) left) ≡ cond (list_any (eq_by_cmp R q) ks) (passing p (f q)) None) [
              | true ↦ ap (λ b. cond b (Some (f k)) (find R q left)) e ∙ rest
              | false ↦ rest
            ]
      ] refl
