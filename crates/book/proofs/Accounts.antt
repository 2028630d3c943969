-- The order of accounts is total, only equal names tie, and the first bytes that differ decide it.
use Rattle.std.proofs.Common.{◌≡◌, ◌≢◌, ℕ, ◌+◌, ◌<◌, ◌≤◌, true, false, cond, ◌==◌, List, [], ◌∷◌, ◌++◌, length, get_or, drop, refl, sym, ap, subst, ◌∙◌, add-one, drop-cons}
use Rattle.std.specs.declared.cmp.Ordering.{Ordering}
use Rattle.std.specs.declared.cmp.Ordering.TheVariants.{Less, Equal, Greater}
use Rattle.std.specs.Ordering.{nat_cmp, ordering_then}
use Rattle.std.specs.Cmp.{IsTotalOrder}
use Rattle.std.specs.Cmp.Lexicographic.{slice_cmp, nat_list_cmp_total}
use Rattle.std.specs.FinMap.{IsAntisymmetric, slice_cmp-IsAntisymmetric, nat_cmp-IsAntisymmetric}
use Rattle.std.proofs.lemmas.Cmp.{on_total, lists_total, tied_itself, nat_cmp_total}
use Rattle.std.proofs.lemmas.Bool.{eqb-true}
use Rattle.std.proofs.lemmas.List.{drop_all}
use Rattle.book.specs.Accounts.{onto, parts_of, account_cmp, byte_order}

abbrev parts_cmp : List (List ℕ) → List (List ℕ) → Ordering
parts_cmp = slice_cmp (slice_cmp nat_cmp)

-- a name has a first part
record HasFirst (parts : List (List ℕ)) : Type 0 where
  first : List ℕ
  rest : List (List ℕ)
  is : parts ≡ first ∷ rest

has_first : (a : List ℕ) → HasFirst (parts_of a)
has_first [] = record { first = []; rest = []; is = refl }
has_first (b ∷ bs) =
    let below = has_first bs in
    elim (b == 58) as (λ t. HasFirst (cond t ([] ∷ parts_of bs) (onto b (parts_of bs)))) [
      | true ↦ record { first = []; rest = parts_of bs; is = refl }
      | false ↦ record { first = b ∷ below.first; rest = below.rest; is = ap (onto b) below.is }
    ]

-- the name that has these parts
abbrev joined_with : List ℕ → List (List ℕ) → List ℕ
joined_with p [] = p
joined_with p (q ∷ qs) = p ++ 58 ∷ joined_with q qs

abbrev joined : List (List ℕ) → List ℕ
joined [] = []
joined (p ∷ ps) = joined_with p ps

joined-onto : (b : ℕ) (p : List ℕ) (ps : List (List ℕ)) → joined (onto b (p ∷ ps)) ≡ b ∷ joined (p ∷ ps)
joined-onto b p [] = refl
joined-onto b p (q ∷ qs) = refl

joined-parts : (a : List ℕ) → joined (parts_of a) ≡ a
joined-parts [] = refl
joined-parts (b ∷ bs) =
    let below = has_first bs in
    let whole : joined (below.first ∷ below.rest) ≡ bs = ap joined (sym below.is) ∙ joined-parts bs in
    elim (b == 58) as (λ t. (b == 58) ≡ t → joined (cond t ([] ∷ parts_of bs) (onto b (parts_of bs))) ≡ b ∷ bs) [
      | true ↦ λ e. ap (λ ps. joined ([] ∷ ps)) below.is ∙ ap (λ x. 58 ∷ x) whole ∙ ap (λ x. x ∷ bs) (sym (eqb-true b 58 e))
      | false ↦ λ e. ap (λ ps. joined (onto b ps)) below.is ∙ joined-onto b below.first below.rest ∙ ap (λ x. b ∷ x) whole
    ] refl

-- only equal names tie
pub account_ties : IsAntisymmetric account_cmp
account_ties a b e = sym (joined-parts a) ∙ ap joined (slice_cmp-IsAntisymmetric (slice_cmp-IsAntisymmetric nat_cmp-IsAntisymmetric) (parts_of a) (parts_of b) e) ∙ joined-parts b

pub account_total : IsTotalOrder account_cmp
account_total = on_total parts_of (lists_total nat_list_cmp_total)

-- ---- byte by byte

-- the parts of two names after a first byte of each
parted : (a b : List ℕ) (P : List (List ℕ) → List (List ℕ) → Type 0) → ((p q : List ℕ) (ps qs : List (List ℕ)) → P (p ∷ ps) (q ∷ qs)) → P (parts_of a) (parts_of b)
parted a b P each =
    let l = has_first a in
    let r = has_first b in
    subst (λ ps. P ps (parts_of b)) (sym l.is) (subst (λ qs. P (l.first ∷ l.rest) qs) (sym r.is) (each l.first r.first l.rest r.rest))

pub heads_same : (x : ℕ) (xs ys : List ℕ) → account_cmp (x ∷ xs) (x ∷ ys) ≡ account_cmp xs ys
heads_same x xs ys =
    elim (x == 58) as (λ t. parts_cmp (cond t ([] ∷ parts_of xs) (onto x (parts_of xs))) (cond t ([] ∷ parts_of ys) (onto x (parts_of ys))) ≡ account_cmp xs ys) [
      | true ↦ refl
      | false ↦ parted xs ys (λ us vs. parts_cmp (onto x us) (onto x vs) ≡ parts_cmp us vs) (λ p q ps qs. ap (λ o. ordering_then (ordering_then o (slice_cmp nat_cmp p q)) (parts_cmp ps qs)) (tied_itself nat_cmp_total x))
    ]

decided : (x y : ℕ) (o n : Ordering) → x ≢ y → ordering_then (ordering_then (nat_cmp x y) o) n ≡ nat_cmp x y
decided x y o n differ =
    elim (nat_cmp x y) as (λ r. nat_cmp x y ≡ r → ordering_then (ordering_then r o) n ≡ r) [
      | Less ↦ λ _. refl
      | Equal ↦ λ e. absurd (differ (nat_cmp-IsAntisymmetric x y e))
      | Greater ↦ λ _. refl
    ] refl

pub heads_differ : (x y : ℕ) (xs ys : List ℕ) → x ≢ y → account_cmp (x ∷ xs) (y ∷ ys) ≡ byte_order x y
heads_differ x y xs ys differ =
    elim (x == 58) as (λ s. (x == 58) ≡ s → parts_cmp (cond s ([] ∷ parts_of xs) (onto x (parts_of xs))) (parts_of (y ∷ ys)) ≡ cond s Less (cond (y == 58) Greater (nat_cmp x y))) [
      | true ↦ λ e. elim (y == 58) as (λ t. (y == 58) ≡ t → parts_cmp ([] ∷ parts_of xs) (cond t ([] ∷ parts_of ys) (onto y (parts_of ys))) ≡ Less) [
        | true ↦ λ f. absurd (differ (eqb-true x 58 e ∙ sym (eqb-true y 58 f)))
        | false ↦ λ f. parted xs ys (λ us vs. parts_cmp ([] ∷ us) (onto y vs) ≡ Less) (λ p q ps qs. refl)
      ] refl
      | false ↦ λ e. elim (y == 58) as (λ t. parts_cmp (onto x (parts_of xs)) (cond t ([] ∷ parts_of ys) (onto y (parts_of ys))) ≡ cond t Greater (nat_cmp x y)) [
        | true ↦ parted xs ys (λ us vs. parts_cmp (onto x us) ([] ∷ vs) ≡ Greater) (λ p q ps qs. refl)
        | false ↦ parted xs ys (λ us vs. parts_cmp (onto x us) (onto y vs) ≡ nat_cmp x y) (λ p q ps qs. decided x y (slice_cmp nat_cmp p q) (parts_cmp ps qs) differ)
      ]
    ] refl

pub longer : (x : ℕ) (xs : List ℕ) → account_cmp (x ∷ xs) [] ≡ Greater
longer x xs =
    elim (x == 58) as (λ t. parts_cmp (cond t ([] ∷ parts_of xs) (onto x (parts_of xs))) ([] ∷ []) ≡ Greater) [
      | true ↦ parted xs [] (λ us vs. parts_cmp ([] ∷ us) ([] ∷ []) ≡ Greater) (λ p q ps qs. refl)
      | false ↦ parted xs [] (λ us vs. parts_cmp (onto x us) ([] ∷ []) ≡ Greater) (λ p q ps qs. refl)
    ]

pub shorter : (y : ℕ) (ys : List ℕ) → account_cmp [] (y ∷ ys) ≡ Less
shorter y ys =
    elim (y == 58) as (λ t. parts_cmp ([] ∷ []) (cond t ([] ∷ parts_of ys) (onto y (parts_of ys))) ≡ Less) [
      | true ↦ parted ys [] (λ us vs. parts_cmp ([] ∷ []) ([] ∷ us) ≡ Less) (λ p q ps qs. refl)
      | false ↦ parted ys [] (λ us vs. parts_cmp ([] ∷ []) (onto y us) ≡ Less) (λ p q ps qs. refl)
    ]

-- ---- at a place of both

module _ (a b : List ℕ) (i : ℕ) where
  at_both : i < length a → i < length b → (P : List ℕ → List ℕ → Type 0) → P (get_or a i 0 ∷ drop (i + 1) a) (get_or b i 0 ∷ drop (i + 1) b) → P (drop i a) (drop i b)
  at_both h k P given =
      let l : drop i a ≡ get_or a i 0 ∷ drop (i + 1) a = rw (add-one, drop-cons a i 0) refl in
      let r : drop i b ≡ get_or b i 0 ∷ drop (i + 1) b = rw (add-one, drop-cons b i 0) refl in
      subst (λ us. P us (drop i b)) (sym l) (subst (λ vs. P (get_or a i 0 ∷ drop (i + 1) a) vs) (sym r) given)

  pub same_more : i < length a → i < length b → get_or a i 0 ≡ get_or b i 0 → account_cmp (drop i a) (drop i b) ≡ account_cmp (drop (i + 1) a) (drop (i + 1) b)
  same_more h k same =
      at_both h k (λ us vs. account_cmp us vs ≡ account_cmp (drop (i + 1) a) (drop (i + 1) b))
      (subst (λ y. account_cmp (get_or a i 0 ∷ drop (i + 1) a) (y ∷ drop (i + 1) b) ≡ account_cmp (drop (i + 1) a) (drop (i + 1) b)) same (heads_same (get_or a i 0) (drop (i + 1) a) (drop (i + 1) b)))

  pub differ_here : i < length a → i < length b → get_or a i 0 ≢ get_or b i 0 → account_cmp (drop i a) (drop i b) ≡ byte_order (get_or a i 0) (get_or b i 0)
  differ_here h k differ =
      at_both h k (λ us vs. account_cmp us vs ≡ byte_order (get_or a i 0) (get_or b i 0)) (heads_differ (get_or a i 0) (get_or b i 0) (drop (i + 1) a) (drop (i + 1) b) differ)

  pub ends_right : i < length a → length b ≤ i → account_cmp (drop i a) (drop i b) ≡ Greater
  ends_right h k =
      let l : drop i a ≡ get_or a i 0 ∷ drop (i + 1) a = rw (add-one, drop-cons a i 0) refl in
      ap (λ us. account_cmp us (drop i b)) l ∙ ap (account_cmp (get_or a i 0 ∷ drop (i + 1) a)) (drop_all i b k) ∙ longer (get_or a i 0) (drop (i + 1) a)

  pub ends_left : length a ≤ i → i < length b → account_cmp (drop i a) (drop i b) ≡ Less
  ends_left h k =
      let r : drop i b ≡ get_or b i 0 ∷ drop (i + 1) b = rw (add-one, drop-cons b i 0) refl in
      ap (λ us. account_cmp us (drop i b)) (drop_all i a h) ∙ ap (account_cmp []) r ∙ shorter (get_or b i 0) (drop (i + 1) b)

  pub ends_both : length a ≤ i → length b ≤ i → account_cmp (drop i a) (drop i b) ≡ Equal
  ends_both h k = ap (λ us. account_cmp us (drop i b)) (drop_all i a h) ∙ ap (account_cmp []) (drop_all i b k)
