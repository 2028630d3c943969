-- A text and a book that is made of it, transaction by transaction.
use Rattle.std.proofs.Common.{◌≡◌, ℕ, zero, suc, ◌+◌, Bool, true, false, ◌⊎◌, List, [], ◌∷◌, length, map, slice_get, Some, None, refl, sym, ap, subst, ◌∙◌, arith, inl, inr}
use Rattle.std.proofs.lemmas.Bool.{cases_Bool, false≢true}
use Rattle.std.proofs.lemmas.Option.{none-some, same_Some}
use Rattle.book.specs.SumsBefore.{placed_from}
use Rattle.book.specs.declared.transaction.Txn.{Txn}
use Rattle.entry_balance.specs.Entry.{settled}
use Rattle.balancing.specs.Solves.{AreMadeTxns, IsMadeTxn}
use Rattle.reached_entries.specs.Reached.{AreSame, AreSolvedAnew, IsSolved}
use Rattle.reached_walk.specs.Asks.{Covers}
use Rattle.reached_walk.proofs.Forms.{text-book}

-- ---- the same but for some numbers

some_none : {X : Type 0} (x : X) → Some x ≡ None → ⊥
some_none x h = none-some x (sym h)

pub same_by : (set : ℕ → Bool) (n : ℕ) (xs ys : List Txn) → ((i k : ℕ) → k ≡ n + i → set k ≡ false → slice_get ys i ≡ slice_get xs i) → AreSame set n xs ys
same_by set n [] [] h = tt
same_by set n [] (y ∷ ys) h = (reached (cases_Bool (set n)), same_by set (suc n) [] ys (λ i k e off. h (suc i) k (omega (arith, e)) off))
  where
    reached : (set n ≡ true) ⊎ (set n ≡ false) → set n ≡ true
    reached (inl on) = on
    reached (inr off) = absurd (some_none y (h 0 n (omega arith) off))
same_by set n (x ∷ xs) [] h = (reached (cases_Bool (set n)), same_by set (suc n) xs [] (λ i k e off. h (suc i) k (omega (arith, e)) off))
  where
    reached : (set n ≡ true) ⊎ (set n ≡ false) → set n ≡ true
    reached (inl on) = on
    reached (inr off) = absurd (none-some x (h 0 n (omega arith) off))
same_by set n (x ∷ xs) (y ∷ ys) h = (
  λ off. same_Some x y (sym (h 0 n (omega arith) off)),
  same_by set (suc n) xs ys (λ i k e off. h (suc i) k (omega (arith, e)) off),
)

pub same_at : (set : ℕ → Bool) (n : ℕ) (xs ys : List Txn) → AreSame set n xs ys → (i k : ℕ) → k ≡ n + i → set k ≡ false → slice_get xs i ≡ slice_get ys i
same_at set n [] [] h i k e off = refl
same_at set n [] (y ∷ ys) h zero k e off = absurd (false≢true (sym off ∙ ap set (first n k e) ∙ h.0))
  where
    first : (n k : ℕ) → k ≡ n + 0 → k ≡ n
    first n k e = omega (arith, e)
same_at set n [] (y ∷ ys) h (suc i) k e off = same_at set (suc n) [] ys h.1 i k (omega (arith, e)) off
same_at set n (x ∷ xs) [] h zero k e off = absurd (false≢true (sym off ∙ ap set (first n k e) ∙ h.0))
  where
    first : (n k : ℕ) → k ≡ n + 0 → k ≡ n
    first n k e = omega (arith, e)
same_at set n (x ∷ xs) [] h (suc i) k e off = same_at set (suc n) xs [] h.1 i k (omega (arith, e)) off
same_at set n (x ∷ xs) (y ∷ ys) h zero k e off = ap (λ (t : Txn). Some t) (h.0 (ap set (sym (first n k e)) ∙ off))
  where
    first : (n k : ℕ) → k ≡ n + 0 → k ≡ n
    first n k e = omega (arith, e)
same_at set n (x ∷ xs) (y ∷ ys) h (suc i) k e off = same_at set (suc n) xs ys h.1 i k (omega (arith, e)) off

pub same_wider : (set other : ℕ → Bool) → ((n : ℕ) → other n ≡ false → set n ≡ false) → (n : ℕ) (xs ys : List Txn) → AreSame set n xs ys → AreSame other n xs ys
same_wider set other f n xs ys h = same_by other n xs ys (λ i k e off. sym (same_at set n xs ys h i k e (f k off)))

-- ---- made of a text

-- one transaction is made of another
pub record IsMadeOf (written solved : Txn) : Type 0 where
  pub made : Txn
  pub kept : IsMadeTxn written made
  pub found : solved ≡ settled made

pub record AreMadeOf (written book : List Txn) : Type 0 where
  pub made : List Txn
  pub kept : AreMadeTxns written made
  pub found : book ≡ map settled made

pub made_by : (written book : List Txn) → length book ≡ length written → ((i : ℕ) (w t : Txn) → slice_get written i ≡ Some w → slice_get book i ≡ Some t → IsMadeOf w t) → AreMadeOf written book
made_by [] [] size h = record { made = []; kept = tt; found = refl }
made_by [] (t ∷ ts) size h = absurd (omega (arith, size))
made_by (w ∷ ws) [] size h = absurd (omega (arith, size))
made_by (w ∷ ws) (t ∷ ts) size h =
    let first = h 0 w t refl refl in
    let rest = made_by ws ts (omega (arith, size)) (λ i v u. h (suc i) v u) in
    record { made = first.made ∷ rest.made; kept = (first.kept, rest.kept); found = λ j. first.found j ∷ rest.found j }

pub made_at : (written made : List Txn) → AreMadeTxns written made → (i : ℕ) (w t : Txn) → slice_get written i ≡ Some w → slice_get (map settled made) i ≡ Some t → IsMadeOf w t
made_at [] [] k i w t gw gt = absurd (none-some w gw)
made_at [] (m ∷ ms) k i w t gw gt = absurd k
made_at (v ∷ vs) [] k i w t gw gt = absurd k
made_at (v ∷ vs) (m ∷ ms) k zero w t gw gt = record {
  made = m;
  kept = subst (λ (x : Txn). IsMadeTxn x m) (same_Some v w gw) k.0;
  found = sym (same_Some (settled m) t gt);
}
made_at (v ∷ vs) (m ∷ ms) k (suc i) w t gw gt = made_at vs ms k.1 i w t gw gt

pub made_covers : (written book : List Txn) → AreMadeOf written book → Covers (placed_from 0 written) (placed_from 0 book)
made_covers written book h = subst (λ (b : List Txn). Covers (placed_from 0 written) (placed_from 0 b)) (sym h.found) (text-book 0 written h.made h.kept)

-- ---- solved anew

pub anew_by : (set : ℕ → Bool) (all : List Txn) (n : ℕ) (written book : List Txn) → length book ≡ length written → ((i k : ℕ) (w t : Txn) → k ≡ n + i → set k ≡ true → slice_get written i ≡ Some w → slice_get book i ≡ Some t → IsSolved all k w t) → AreSolvedAnew set all n written book
anew_by set all n [] [] size h = tt
anew_by set all n [] (t ∷ ts) size h = absurd (omega (arith, size))
anew_by set all n (w ∷ ws) [] size h = absurd (omega (arith, size))
anew_by set all n (w ∷ ws) (t ∷ ts) size h = (
  λ on. h 0 n w t (omega arith) on refl refl,
  anew_by set all (suc n) ws ts (omega (arith, size)) (λ i k v u e on. h (suc i) k v u (omega (arith, e)) on),
)
