-- Postings that stay single are filled where they stand.
use Rattle.std.proofs.Common.{◌≡◌, ℕ, ◌+◌, ◌<◌, ◌==◌, true, false, ◌||◌, zero, suc, List, [], ◌∷◌, ◌++◌, map, length, take, drop, set, get_or, Option, Some, None, is_some, refl, sym, ap, ◌∙◌, arith}
use Rattle.std.specs.List.{flat_map, list_all}
use Rattle.std.proofs.lemmas.Bool.{false≢true, eqb-true}
use Rattle.book.specs.declared.amount.Amount.{Amount}
use Rattle.book.specs.declared.transaction.Posting.{Posting}
use Rattle.entry_balance.specs.Values.{Value}
use Rattle.entry_balance.specs.Entry.{found_posting}
use Rattle.entry_balance.specs.Fill.{filled_posting, filled_in_place, filled_if_missing, found_for, stays_single, with_found}
use Rattle.entry_balance.proofs.Named.{left_true, right_true}

one_found : (p : Posting) (found : List Value) → (length found == 1) ≡ true → with_found p found ∷ [] ≡ map (found_posting p) found
one_found p [] h = let no : ⊥ = cc in absurd no
one_found p (v ∷ []) h = refl
one_found p (v ∷ w ∷ found) h = absurd (omega (arith, eqb-true (length (v ∷ w ∷ found)) 1 h))

one_in_place : (real balanced : List Value) (p : Posting) (amount : Option Amount) → (is_some amount || length (found_for real balanced p.side) == 1) ≡ true
    → filled_if_missing (found_for real balanced p.side) p amount ∷ [] ≡ filled_posting real balanced None p amount
one_in_place real balanced p None h = one_found p (found_for real balanced p.side) h
one_in_place real balanced p (Some a) h = refl

pub in_place-is : (real balanced : List Value) (ps : List Posting) → list_all (stays_single real balanced) ps ≡ true
    → map (filled_in_place real balanced) ps ≡ flat_map (λ p. filled_posting real balanced None p p.amount) ps
in_place-is real balanced [] h = refl
in_place-is real balanced (p ∷ ps) h =
    ap (λ (qs : List Posting). filled_in_place real balanced p ∷ qs) (in_place-is real balanced ps (right_true (stays_single real balanced p) (list_all (stays_single real balanced) ps) h))
    ∙ ap (λ (qs : List Posting). qs ++ flat_map (λ p. filled_posting real balanced None p p.amount) ps) (one_in_place real balanced p p.amount (left_true (stays_single real balanced p) (list_all (stays_single real balanced) ps) h))

-- one more item of a list is changed where it stands
module _ {X : Type 0} (f : X → X) where
  pub changed_more : (xs : List X) (i : ℕ) (d : X) → i < length xs
      → set (map f (take i xs) ++ drop i xs) i (f (get_or xs i d)) ≡ map f (take (i + 1) xs) ++ drop (i + 1) xs
  changed_more [] i d h = absurd (omega arith)
  changed_more (x ∷ xs) zero d h = refl
  changed_more (x ∷ xs) (suc i) d h =
      let k : suc i + 1 ≡ suc (i + 1) = omega arith in
      rw k (ap (λ ys. f x ∷ ys) (changed_more xs i d (omega arith)))

  pub changed_at : (xs : List X) (i : ℕ) (d : X) → i < length xs → get_or (map f (take i xs) ++ drop i xs) i d ≡ get_or xs i d
  changed_at [] i d h = absurd (omega arith)
  changed_at (x ∷ xs) zero d h = refl
  changed_at (x ∷ xs) (suc i) d h = changed_at xs i d (omega arith)

pub none-from : {X : Type 0} (o : Option X) → is_some o ≡ false → o ≡ None
none-from None h = refl
none-from (Some x) h = absurd (false≢true (sym h))
