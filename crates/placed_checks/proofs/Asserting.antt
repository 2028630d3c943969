-- Assertions of a transaction hold just after their places where they hold by what accounts held before it.
use Rattle.std.proofs.Common.{◌≡◌, ℕ, ℤ, pos, suc, ◌+ℤ◌, Bool, true, false, cond, not, List, [], ◌∷◌, ◌++◌, length, filter, Option, Some, None, inl, inr, refl, sym, ap, subst, ◌∙◌, append_assoc, arith}
use Rattle.std.specs.List.{AllByRecursion}
use Rattle.std.specs.Option.{option_map}
use Rattle.std.specs.Ordering.{int_cmp, is_eq}
use Rattle.std.specs.Str.{bytes_eq}
use Rattle.std.proofs.lemmas.Bool.{false≢true}
use Rattle.std.proofs.lemmas.Int.{ints}
use Rattle.hl_num.specs.Decimal.{units_of}
use Rattle.book.specs.Postings.{postings_of}
use Rattle.book.specs.Sums.{share, sum_of, symbols_of}
use Rattle.book.specs.SumsBefore.{Place, is_of, other_before, placed_in, sum_before}
use Rattle.book.specs.declared.amount.Amount.{Amount}
use Rattle.book.specs.declared.amount.Assertion.{Assertion}
use Rattle.book.specs.declared.transaction.Posting.{Posting}
use Rattle.book.specs.declared.transaction.Txn.{Txn}
use Rattle.entry_balance.specs.Entry as amounts
use Rattle.entry_balance.specs.Tally.{sums_of, total_of}
use Rattle.entry_balance.specs.Values.{Value}
use Rattle.entry_balance.proofs.Turnover.{alike}
use Rattle.assertions.specs.Assertions.{failure_at, first_of, is_other, is_same}
use Rattle.balancing.specs.Solves.{HaveFew, Holds, HoldsIf, IsAssertedAt, just_after, values_before}
use Rattle.balancing.proofs.SolvingSeen.{EachAfter}
use Rattle.balancing.proofs.SolvingUnits.{other_at}
use Rattle.entry_check.specs.Checked.{Others, Told, failure_after, held_after}
use Rattle.placed_checks.specs.Placed.{AreRight}
use Rattle.placed_checks.proofs.Besides.{first_same, other_is}
use Rattle.placed_checks.proofs.Lists.{all_chosen, all_first, all_rest, length_more}
use Rattle.placed_checks.proofs.Ordered.{Passes, each_place, late_wants}
use Rattle.placed_checks.proofs.Own.{IsOnDay, early, early_place, early_takes, entry_at, is_late, place_at}
use Rattle.placed_checks.proofs.Through.{sum_through}
use Rattle.placed_checks.proofs.Units.{same_units}

-- ---- where what is asked for has to be of one symbol, no posting of another one counts

abbrev pub IsAlike : List ℕ → Assertion → Posting → Type 0
IsAlike account w q = is_of account w.below q.account ≡ true → amounts.is_of w.amount.symbol q.amount ≡ true

abbrev pub Unmixed : List Posting → List ℕ → Option Assertion → Type 0
Unmixed all account None = Unit {0}
Unmixed all account (Some w) = w.only ≡ true → AllByRecursion (IsAlike account w) all

-- ---- what doesn't fail is as it is wanted

same_if : (line : ℕ) (w : Assertion) (b : Bool) (other : Option Value) (found : Value) → failure_at line w (cond b other (Some found)) ≡ None → b ≡ true
same_if line w true other found h = refl
same_if line w false other found h = absurd (let never : ⊥ = cc in never)

none_found : (line : ℕ) (w : Assertion) (f : List ℕ → Value) (o : Option (List ℕ)) → failure_at line w (option_map f o) ≡ None → o ≡ None
none_found line w f None h = refl
none_found line w f (Some s) h = absurd (let never : ⊥ = cc in never)

none_named : (vs : List Value) → option_map (λ sum. sum.0) (first_of vs) ≡ None → vs ≡ []
none_named [] h = refl
none_named (v ∷ vs) h = absurd (let never : ⊥ = cc in never)

add_none : (x : ℤ) → x +ℤ pos 0 ≡ x
add_none x = omega (arith, ints)

-- postings of one symbol have no sum in another
none_in : (symbol s : List ℕ) (o : Option Amount) (z : ℤ) → bytes_eq s symbol ≡ false → amounts.is_of symbol o ≡ true → z ≡ pos 0 → share s o +ℤ z ≡ pos 0
none_in symbol s None z apart h none = ap (λ (x : ℤ). pos 0 +ℤ x) none
none_in symbol s (Some a) z apart h none =
    elim (alike a.symbol s) [
      | inl same ↦ absurd (false≢true (sym apart ∙ ap (λ (x : List ℕ). bytes_eq x symbol) (sym same) ∙ h))
      | inr other ↦ ap (λ (b : Bool). cond b (units_of a.value) (pos 0) +ℤ z) other ∙ ap (λ (x : ℤ). pos 0 +ℤ x) none
    ]

none_of_it : (account symbol : List ℕ) (below : Bool) (s : List ℕ) → bytes_eq s symbol ≡ false → (ps : List Posting) → AllByRecursion (λ q. is_of account below q.account ≡ true → amounts.is_of symbol q.amount ≡ true) ps → sum_of s (filter (λ q. is_of account below q.account) ps) ≡ pos 0
none_of_it account symbol below s apart [] h = refl
none_of_it account symbol below s apart (p ∷ ps) h =
    let rest = none_of_it account symbol below s apart ps h.1 in
    let left : List Posting = filter (λ q. is_of account below q.account) ps in
    elim (is_of account below p.account) as (λ b. is_of account below p.account ≡ b → sum_of s (cond b (p ∷ left) left) ≡ pos 0) [
      | true ↦ λ on. none_in symbol s p.amount (sum_of s left) apart (h.0 on) rest
      | false ↦ λ off. rest
    ] refl

module _ (told : Told) (others : Others) (book front back : List Txn) (t : Txn) (n : ℕ) (is : book ≡ front ++ t ∷ back) (long : length front ≡ n) (days : AllByRecursion (IsOnDay t) t.postings)
    (few : HaveFew book) (right : AreRight told others book (place_at t n 0)) (unmixed : AllByRecursion (λ p. Unmixed t.postings p.account p.wanted) t.postings) where
  -- the least other symbol whose sum isn't zero is the same too, where none of its own postings is of another symbol
  other_same : (account symbol : List ℕ) (below : Bool) (xs ys : List Posting) (m : ℕ) → t.postings ≡ xs ++ ys → length xs ≡ m → AllByRecursion (λ q. is_of account below q.account ≡ true → amounts.is_of symbol q.amount ≡ true) (early t xs) →
      other_before book account symbol below (place_at t n m) ≡ other_before book account symbol below (place_at t n 0)
  other_same account symbol below xs ys m split count alike_ones =
      let new : List ℕ → ℤ = λ s. sum_before book account s below (place_at t n m) in
      let old : List ℕ → ℤ = λ s. sum_before book account s below (place_at t n 0) in
      let same : (s : List ℕ) → bytes_eq s symbol ≡ false → new s ≡ old s = λ s apart.
      sum_through book front back t n is long days account below s m xs ys split count
      ∙ ap (λ (z : ℤ). old s +ℤ z) (none_of_it account symbol below s apart (early t xs) alike_ones)
      ∙ add_none (old s) in
      sym (other_is book account below (place_at t n m) symbol)
      ∙ first_same symbol new old same (symbols_of (postings_of book))
      ∙ other_is book account below (place_at t n 0) symbol

  -- what is found beside the wanted symbol
  pub beside_same : (p : Posting) (w : Assertion) (xs ys : List Posting) (m : ℕ) → t.postings ≡ xs ++ ys → length xs ≡ m → Unmixed t.postings p.account (Some w) → w.only ≡ true →
      option_map (λ sum. sum.0) (first_of (filter (is_other w.amount.symbol) (sums_of (values_before book p.account w.below (place_at t n m))))) ≡ others w.below p.account w.amount.symbol
  beside_same p w xs ys m split count one on =
      let P : Posting → Type 0 = IsAlike p.account w in
      other_at book few p.account w.below (place_at t n m) w.amount.symbol
      ∙ other_same p.account w.amount.symbol w.below xs ys m split count (all_chosen P (λ q. not (is_late t q)) xs (all_first P xs ys (subst (AllByRecursion P) split (one on))))
      ∙ sym (right.beside w.below p.account w.amount.symbol)

  one_holds : (p : Posting) (w : Assertion) (xs ys : List Posting) (m : ℕ) → t.postings ≡ xs ++ ys → length xs ≡ m → Unmixed t.postings p.account (Some w) → failure_after told others (early t xs) p (Some w) ≡ None → Holds w (values_before book p.account w.below (place_at t n m))
  one_holds p w xs ys m split count one h =
      let total = total_of w.amount.symbol (held_after told w.below p.account w.amount.symbol (early t xs)) in
      let f : List ℕ → Value = λ s. (s, told w.below p.account s) in
      let o : Option (List ℕ) = others w.below p.account w.amount.symbol in
      let same : is_same total w.amount.value ≡ true = same_if p.line w (is_same total w.amount.value) (cond w.only (option_map f o) None) (w.amount.symbol, total) h in
      record {
        sum = ap (λ (z : ℤ). is_eq (int_cmp z (units_of w.amount.value))) (same_units told others book front back t n is long days few right p.account w.amount.symbol w.below xs ys m split count) ∙ same;
        only = λ on.
            let none : failure_at p.line w (option_map f o) ≡ None =
            sym (ap (λ (b : Bool). failure_at p.line w (cond b (cond w.only (option_map f o) None) (Some (w.amount.symbol, total)))) same ∙ ap (λ (b : Bool). failure_at p.line w (cond b (option_map f o) None)) on) ∙ h in
            none_named (filter (is_other w.amount.symbol) (sums_of (values_before book p.account w.below (place_at t n m)))) (beside_same p w xs ys m split count one on ∙ none_found p.line w f o none);
      }

  each_holds : (p : Posting) (o : Option Assertion) (xs ys : List Posting) (m : ℕ) → t.postings ≡ xs ++ ys → length xs ≡ m → Unmixed t.postings p.account o → failure_after told others (early t xs) p o ≡ None → HoldsIf o (λ w. values_before book p.account w.below (place_at t n m))
  each_holds p None xs ys m split count one h = tt
  each_holds p (Some w) xs ys m split count one h = one_holds p w xs ys m split count one h

  early_holds : (k : ℕ) (xs ys : List Posting) (p : Posting) → t.postings ≡ xs ++ p ∷ ys → length xs ≡ k → is_late t p ≡ false → Passes told others (early t xs) p → IsAssertedAt book (entry_at t n k p)
  early_holds k xs ys p split count e h =
      let through : List Posting = xs ++ p ∷ [] in
      let whole : t.postings ≡ through ++ ys = split ∙ sym (append_assoc xs (p ∷ []) ys) in
      let longer : length through ≡ suc k = length_more xs p ∙ ap suc count in
      let U : Posting → Type 0 = λ q. Unmixed t.postings q.account q.wanted in
      let one : U p = (all_rest U xs (p ∷ ys) (subst (AllByRecursion U) split unmixed)).0 in
      let on : IsOnDay t p = (all_rest (IsOnDay t) xs (p ∷ ys) (subst (AllByRecursion (IsOnDay t)) split days)).0 in
      let P : Place → Type 0 = λ q. HoldsIf p.wanted (λ w. values_before book p.account w.below (just_after q)) in
      let R : List Posting → Type 0 = λ done. failure_after told others done p p.wanted ≡ None in
      subst P (sym (early_place t n k p on e)) (each_holds p p.wanted through ys (suc k) whole longer one (subst R (sym (early_takes t xs p e)) h))

  late_holds : (k : ℕ) (p : Posting) → is_late t p ≡ true → IsAssertedAt book (entry_at t n k p)
  late_holds k p e =
      let H : Option Assertion → Type 0 = λ o. HoldsIf o (λ w. values_before book p.account w.below (just_after (entry_at t n k p).0)) in
      subst H (sym (late_wants t p e)) tt

  -- no assertion fails
  pub all_hold : EachAfter (Passes told others) [] (early t t.postings) → AllByRecursion (IsAssertedAt book) (placed_in t n 0 t.postings)
  all_hold h = each_place t n (Passes told others) (IsAssertedAt book) early_holds late_holds 0 [] t.postings refl refl h
