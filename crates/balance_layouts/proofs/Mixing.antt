-- The sums of some entries are a part of them.
use Rattle.std.proofs.Common.{◌≡◌, ℕ, ℤ, zero, suc, pos, negsuc, ◌+◌, ◌-◌, ◌*◌, ◌/◌, ◌%◌, ◌^◌, ◌≤◌, ◌⊎◌, inl, inr, ◌+ℤ◌, ◌*ℤ◌, neg_ℤ, unsigned_abs, Bool, true, false, cond, T, List, [], ◌∷◌, map, filter, zero-mul, refl, sym, ap, subst, ◌∙◌, arith}
use Rattle.std.specs.List.{AllByRecursion}
use Rattle.std.specs.Ordering.{is_eq, nat_cmp}
use Rattle.std.specs.Cmp.Lexicographic.{slice_cmp, nat_list_cmp_total}
use Rattle.std.specs.FinMap.Entries.{below_all, is_sorted}
use Rattle.std.specs.Str.{bytes_eq}
use Rattle.std.proofs.lemmas.Int.{unsigned_abs-mul}
use Rattle.std.proofs.lemmas.Nat.{div-add-mod'}
use Rattle.std.proofs.Math.Nat.{mul-mod_left}
use Rattle.hl_num.proofs.DecimalLemmas.{mul-add, neg-mul}
use Rattle.book.specs.Sums.{is_nonzero}
use Rattle.book.proofs.Entries.{text_ties, tie-bytes_eq}
use Rattle.book.proofs.Order.{sorted-each_once}
use Rattle.book.proofs.Places.{first, second, less}
use Rattle.report_cells.specs.Report.{Sums}
use Rattle.balance_rows.specs.Fitting.{IsWhole, turnover}
use Rattle.balance_rows.specs.Sums.{mixed_of, share, sum_of, symbols_of}
use Rattle.balance_rows.proofs.Entries.{sum-le-turnover}
use Rattle.balance_rows.proofs.Fits.{IsPart}
use Rattle.balance_rows.proofs.Holding.{alike, share-itself}

-- ---- a symbol stands once among the sums

module _ (q : List ℕ) (f : List ℕ → ℤ) where
  abbrev told : List (List ℕ) → Sums
  told ks = filter (λ (sum : List ℕ × ℤ). is_nonzero sum.1) (map (λ (k : List ℕ). (k, f k)) ks)

  other_share : (k : List ℕ) → bytes_eq k q ≡ false → share q (k, f k) ≡ pos 0
  other_share k differ = ap (λ (b : Bool). cond b (f k) (pos 0)) differ

  -- symbols that are all above one
  told-above : (ks : List (List ℕ)) → T (below_all (slice_cmp nat_cmp) q (map (λ (k : List ℕ). (k, k)) ks)) → turnover q (told ks) ≡ 0
  told-above [] h = refl
  told-above (k ∷ ks) h =
      let none : share q (k, f k) ≡ pos 0 = other_share k (sym (tie-bytes_eq q k) ∙ ap is_eq (less _ (first _ _ h))) in
      elim (is_nonzero (f k)) as (λ b. turnover q (cond b ((k, f k) ∷ told ks) (told ks)) ≡ 0) [
        | true ↦ omega (arith, ap unsigned_abs none, told-above ks (second _ _ h))
        | false ↦ told-above ks (second _ _ h)
      ]

  told-le : (ks : List (List ℕ)) → T (is_sorted (slice_cmp nat_cmp) (map (λ (k : List ℕ). (k, k)) ks)) → turnover q (told ks) ≤ unsigned_abs (f q)
  told-le [] h = omega arith
  told-le (k ∷ ks) h = elim (alike k q) [
    | inl same ↦
        let rest : turnover q (told ks) ≡ 0 = told-above ks (subst (λ (x : List ℕ). T (below_all (slice_cmp nat_cmp) x (map (λ (k : List ℕ). (k, k)) ks))) same (first _ _ h)) in
        let here : share q (k, f k) ≡ f q = subst (λ (x : List ℕ). share q (x, f x) ≡ f q) (sym same) (share-itself q (f q)) in
        elim (is_nonzero (f k)) as (λ b. turnover q (cond b ((k, f k) ∷ told ks) (told ks)) ≤ unsigned_abs (f q)) [
          | true ↦ omega (arith, ap unsigned_abs here, rest)
          | false ↦ omega (arith, rest)
        ]
    | inr differ ↦
        let none : share q (k, f k) ≡ pos 0 = other_share k differ in
        elim (is_nonzero (f k)) as (λ b. turnover q (cond b ((k, f k) ∷ told ks) (told ks)) ≤ unsigned_abs (f q)) [
          | true ↦ omega (arith, ap unsigned_abs none, told-le ks (second _ _ h))
          | false ↦ told-le ks (second _ _ h)
        ]
  ]

  told-whole : (n : ℕ) → unsigned_abs (f q) % n ≡ 0 → (ks : List (List ℕ)) → AllByRecursion (λ (e : List ℕ × ℤ). unsigned_abs (share q e) % n ≡ 0) (told ks)
  told-whole n whole [] = tt
  told-whole n whole (k ∷ ks) =
      elim (is_nonzero (f k)) as (λ b. AllByRecursion (λ (e : List ℕ × ℤ). unsigned_abs (share q e) % n ≡ 0) (cond b ((k, f k) ∷ told ks) (told ks))) [
        | true ↦ (here (alike k q), told-whole n whole ks)
        | false ↦ told-whole n whole ks
      ]
    where
      here : (k ≡ q) ⊎ (bytes_eq k q ≡ false) → unsigned_abs (share q (k, f k)) % n ≡ 0
      here (inl same) = ap (λ (z : ℤ). unsigned_abs z % n) (subst (λ (x : List ℕ). share q (x, f x) ≡ f q) (sym same) (share-itself q (f q))) ∙ whole
      here (inr differ) = ap (λ (z : ℤ). unsigned_abs z % n) (other_share k differ) ∙ ap (λ (m : ℕ). m % n) (sym (zero-mul n)) ∙ mul-mod_left 0 n

-- ---- the sum in a symbol

record IsMultiple (z : ℤ) (n : ℕ) : Type 0 where
  times : ℤ
  is : z ≡ times *ℤ pos n

multiple-sum : (a b : ℤ) (n : ℕ) → IsMultiple a n → IsMultiple b n → IsMultiple (a +ℤ b) n
multiple-sum a b n f g = record { times = f.times +ℤ g.times; is = (λ i. f.is i +ℤ g.is i) ∙ sym (mul-add f.times g.times n) }

multiple-zero : (n : ℕ) → IsMultiple (pos 0) n
multiple-zero n = record { times = pos 0; is = sym (ap pos (zero-mul n)) }

whole_parts : (m n : ℕ) → m % n ≡ 0 → m ≡ m / n * n
whole_parts m n h = omega (arith, div-add-mod' m n, h)

multiple-from : (z : ℤ) (n : ℕ) → unsigned_abs z % n ≡ 0 → IsMultiple z n
multiple-from (pos m) n h = record { times = pos (m / n); is = ap pos (whole_parts m n h) }
multiple-from (negsuc m) n h = record {
  times = neg_ℤ (pos (suc m / n));
  is = ap (λ (k : ℕ). neg_ℤ (pos k)) (whole_parts (suc m) n h) ∙ sym (neg-mul (suc m / n) n);
}

no_rest : (z : ℤ) (n : ℕ) → IsMultiple z n → unsigned_abs z % n ≡ 0
no_rest z n m = ap (λ (k : ℕ). k % n) (ap unsigned_abs m.is ∙ unsigned_abs-mul m.times (pos n)) ∙ mul-mod_left (unsigned_abs m.times) n

module _ (q : List ℕ) where
  sum-multiple : (places : ℕ) (es : Sums) → AllByRecursion (IsWhole places q) es → IsMultiple (sum_of q es) (10 ^ (36 - places))
  sum-multiple places [] h = multiple-zero (10 ^ (36 - places))
  sum-multiple places (e ∷ es) h =
      multiple-sum (share q e) (sum_of q es) (10 ^ (36 - places)) (multiple-from (share q e) (10 ^ (36 - places)) h.0) (sum-multiple places es h.1)

-- the sums that aren't zero
pub part-mixed : (es : Sums) → IsPart (mixed_of es) es
part-mixed es = record {
  less = λ q.
      let symbols = map (λ (e : List ℕ × ℤ). e.0) es in
      omega (arith, told-le q (λ (k : List ℕ). sum_of k es) (symbols_of es) (sorted-each_once text_ties (λ (k : List ℕ). k) nat_list_cmp_total symbols), sum-le-turnover q es);
  whole = λ places q h.
      told-whole q (λ (k : List ℕ). sum_of k es) (10 ^ (36 - places)) (no_rest (sum_of q es) (10 ^ (36 - places)) (sum-multiple q places es h)) (symbols_of es);
}
