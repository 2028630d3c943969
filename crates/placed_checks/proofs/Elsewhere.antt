-- Postings of other transactions, before the places of one.
use Rattle.std.proofs.Common.{◌≡◌, ℕ, suc, ◌+◌, ◌<◌, ◌≤◌, Bool, false, ◌&&◌, ◌||◌, cond, eqb, ltb, List, [], ◌∷◌, ◌++◌, length, filter, refl, sym, ap, ◌∙◌, arith, append_assoc}
use Rattle.std.specs.Prelude.{unwrap_or}
use Rattle.std.proofs.lemmas.Bool.Decides.{nat_tests}
use Rattle.book.specs.SumsBefore.{Place, is_before, is_of, number_in, placed_in, placed_from}
use Rattle.book.specs.declared.transaction.Posting.{Posting}
use Rattle.book.specs.declared.transaction.Txn.{Txn}

abbrev pub Entry : Type 0
Entry = Place × Posting

-- a posting of another transaction stands before all places of one, or before none
pub same_before : (f : Place) (day n a b : ℕ) → eqb f.txn n ≡ false → is_before f (record { day = day; txn = n; posting = a }) ≡ is_before f (record { day = day; txn = n; posting = b })
same_before f day n a b other =
    ap (λ (t : Bool). ltb f.day day || (eqb f.day day && (ltb f.txn n || (t && ltb f.posting a)))) other
    ∙ sym (ap (λ (t : Bool). ltb f.day day || (eqb f.day day && (ltb f.txn n || (t && ltb f.posting b)))) other)

lower : (m n : ℕ) → m < n → eqb m n ≡ false
lower m n h = grind (arith, nat_tests)

higher : (m n : ℕ) → n < m → eqb m n ≡ false
higher m n h = grind (arith, nat_tests)

module _ (account : List ℕ) (below : Bool) (day n : ℕ) where
  -- an entry counts before the place with a number
  abbrev pub counted : ℕ → Entry → Bool
  counted j e = is_before e.0 (record { day = day; txn = n; posting = j }) && is_of account below e.1.account

  same_in : (a b : ℕ) (t : Txn) (m k : ℕ) (ps : List Posting) (es : List Entry) → eqb m n ≡ false → filter (counted a) es ≡ filter (counted b) es → filter (counted a) (placed_in t m k ps ++ es) ≡ filter (counted b) (placed_in t m k ps ++ es)
  same_in a b t m k [] es other h = h
  same_in a b t m k (p ∷ ps) es other h =
      let at : Place = record { day = (unwrap_or p.day t.day).0; txn = m; posting = number_in t k p } in
      let test : is_before at (record { day = day; txn = n; posting = a }) ≡ is_before at (record { day = day; txn = n; posting = b }) = same_before at day n a b other in
      let rest = same_in a b t m (suc k) ps es other h in
      λ i. cond (test i && is_of account below p.account) ((at, p) ∷ rest i) (rest i)

  -- those of earlier transactions, and those of later ones
  pub same_front : (a b m : ℕ) (ts : List Txn) → m + length ts ≤ n → filter (counted a) (placed_from m ts) ≡ filter (counted b) (placed_from m ts)
  same_front a b m [] h = refl
  same_front a b m (t ∷ ts) h = same_in a b t m 0 t.postings (placed_from (suc m) ts) (lower m n (omega (arith, h))) (same_front a b (suc m) ts (omega (arith, h)))

  pub same_back : (a b m : ℕ) (ts : List Txn) → n < m → filter (counted a) (placed_from m ts) ≡ filter (counted b) (placed_from m ts)
  same_back a b m [] h = refl
  same_back a b m (t ∷ ts) h = same_in a b t m 0 t.postings (placed_from (suc m) ts) (higher m n h) (same_back a b (suc m) ts (omega (arith, h)))

-- the places of two lists of transactions
pub placed_both : (n : ℕ) (ts vs : List Txn) → placed_from n (ts ++ vs) ≡ placed_from n ts ++ placed_from (n + length ts) vs
placed_both n [] vs = ap (λ (k : ℕ). placed_from k vs) (let same : n ≡ n + 0 = omega arith in same)
placed_both n (t ∷ ts) vs =
    let next : suc n + length ts ≡ n + length (t ∷ ts) = omega arith in
    ap (λ (es : List Entry). placed_in t n 0 t.postings ++ es) (placed_both (suc n) ts vs ∙ ap (λ (k : ℕ). placed_from (suc n) ts ++ placed_from k vs) next)
    ∙ sym (append_assoc (placed_in t n 0 t.postings) (placed_from (suc n) ts) (placed_from (n + length (t ∷ ts)) vs))
