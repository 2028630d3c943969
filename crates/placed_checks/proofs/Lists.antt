-- Facts on lists and tests that several proofs share.
use Rattle.std.proofs.Common.{◌≡◌, ℕ, zero, suc, ◌+◌, Bool, true, false, cond, List, [], ◌∷◌, ◌++◌, filter, length, Some, refl, ap}
use Rattle.std.specs.List.{AllByRecursion, list_all, slice_get}
use Rattle.book.specs.declared.transaction.Txn.{Txn}
use Rattle.entry_balance.proofs.Named.{left_true, right_true}

pub all_map : {X : Type 0} (P Q : X → Type 0) → ((x : X) → P x → Q x) → (xs : List X) → AllByRecursion P xs → AllByRecursion Q xs
all_map P Q f [] h = tt
all_map P Q f (x ∷ xs) h = (f x h.0, all_map P Q f xs h.1)

-- a test that all pass holds of each
pub all_tested : {X : Type 0} (p : X → Bool) (xs : List X) → list_all p xs ≡ true → AllByRecursion (λ x. p x ≡ true) xs
all_tested p [] h = tt
all_tested p (x ∷ xs) h = (left_true (p x) (list_all p xs) h, all_tested p xs (right_true (p x) (list_all p xs) h))

-- the first and the rest of two lists of which all passes
pub all_first : {X : Type 0} (P : X → Type 0) (xs ys : List X) → AllByRecursion P (xs ++ ys) → AllByRecursion P xs
all_first P [] ys h = tt
all_first P (x ∷ xs) ys h = (h.0, all_first P xs ys h.1)

pub all_rest : {X : Type 0} (P : X → Type 0) (xs ys : List X) → AllByRecursion P (xs ++ ys) → AllByRecursion P ys
all_rest P [] ys h = h
all_rest P (x ∷ xs) ys h = all_rest P xs ys h.1

pub all_append : {X : Type 0} (P : X → Type 0) (xs ys : List X) → AllByRecursion P xs → AllByRecursion P ys → AllByRecursion P (xs ++ ys)
all_append P [] ys h k = k
all_append P (x ∷ xs) ys h k = (h.0, all_append P xs ys h.1 k)

-- what holds of each holds of the chosen ones
pub all_chosen : {X : Type 0} (P : X → Type 0) (p : X → Bool) (xs : List X) → AllByRecursion P xs → AllByRecursion P (filter p xs)
all_chosen P p [] h = tt
all_chosen P p (x ∷ xs) h =
    let rest = all_chosen P p xs h.1 in
    elim (p x) as (λ b. AllByRecursion P (cond b (x ∷ filter p xs) (filter p xs))) [ true ↦ (h.0, rest) | false ↦ rest ]

pub length_more : {X : Type 0} (xs : List X) (x : X) → length (xs ++ x ∷ []) ≡ suc (length xs)
length_more [] x = refl
length_more (y ∷ ys) x = ap suc (length_more ys x)

-- ---- a book before and behind one of its transactions

pub record Parts (book : List Txn) (n : ℕ) (t : Txn) : Type 0 where
  pub front : List Txn
  pub back : List Txn
  pub is : book ≡ front ++ t ∷ back
  pub long : length front ≡ n

same_some : (x y : Txn) → Some x ≡ Some y → x ≡ y
same_some x y h = let e : x ≡ y = cc in e

pub parted : (book : List Txn) (n : ℕ) (t : Txn) → slice_get book n ≡ Some t → Parts book n t
parted [] n t h = absurd (let never : ⊥ = cc in never)
parted (u ∷ us) zero t h = record { front = []; back = us; is = ap (λ (x : Txn). x ∷ us) (same_some u t h); long = refl }
parted (u ∷ us) (suc n) t h =
    let rest = parted us n t h in
    record { front = u ∷ rest.front; back = rest.back; is = ap (λ (ts : List Txn). u ∷ ts) rest.is; long = ap suc rest.long }
