-- A transaction that is solved in a book passes its check by what accounts hold before its place.
use Rattle.std.proofs.Common.{◌≡◌, ℕ, ℤ, suc, Bool, true, false, cond, not, List, [], ◌∷◌, ◌++◌, length, filter, Option, Some, None, is_none, refl, sym, ap, subst, ◌∙◌, append_assoc}
use Rattle.std.specs.List.{AllByRecursion, list_any}
use Rattle.std.specs.Option.{option_map}
use Rattle.std.specs.Ordering.{int_cmp, is_eq}
use Rattle.std.proofs.lemmas.Bool.{false≢true}
use Rattle.hl_num.specs.Decimal.{units_of}
use Rattle.book.specs.SumsBefore.{Place, is_assigned, placed_in}
use Rattle.book.specs.declared.amount.Assertion.{Assertion}
use Rattle.book.specs.declared.transaction.Posting.{Posting}
use Rattle.book.specs.declared.transaction.Txn.{Txn}
use Rattle.entry_balance.specs.Tally.{total_of}
use Rattle.entry_balance.specs.Values.{Value}
use Rattle.entry_balance.proofs.Named.{right_true}
use Rattle.assertions.specs.Assertions.{failure_at, first_of, is_same, or_else_fault}
use Rattle.balancing.specs.Parts.{is_found, is_in}
use Rattle.balancing.specs.declared.groups.Part.TheVariants as part
use Rattle.balancing.specs.Solves.{HaveFew, Holds, HoldsIf, IsAssertedAt, just_after, values_before}
use Rattle.balancing.proofs.SolvingSeen.{EachAfter, each_append}
use Rattle.entry_check.specs.Checked.{Others, Told, failure_after, first_failing, held_after, in_order}
use Rattle.placed_checks.specs.Placed.{AreRight}
use Rattle.placed_checks.proofs.Asserting.{Unmixed, beside_same}
use Rattle.placed_checks.proofs.Elsewhere.{Entry}
use Rattle.placed_checks.proofs.Lists.{all_rest, length_more}
use Rattle.placed_checks.proofs.Ordered.{Passes, all_early, found_is}
use Rattle.placed_checks.proofs.Own.{IsOnDay, early, early_place, early_skips, early_takes, entry_at, is_late, late_by, place_at}
use Rattle.placed_checks.proofs.Units.{same_units}

-- ---- from the places to the order

module _ (t : Txn) (n : ℕ) (P : List Posting → Posting → Type 0) (Q : Entry → Type 0)
    (early_ones : (k : ℕ) (xs ys : List Posting) (p : Posting) → t.postings ≡ xs ++ p ∷ ys → length xs ≡ k → is_late t p ≡ false → Q (entry_at t n k p) → P (early t xs) p) where
  pub each_after : (k : ℕ) (xs ps : List Posting) → t.postings ≡ xs ++ ps → length xs ≡ k → AllByRecursion Q (placed_in t n k ps) → EachAfter P (early t xs) (early t ps)
  each_after k xs [] is long h = tt
  each_after k xs (p ∷ ps) is long h =
      let whole : t.postings ≡ (xs ++ p ∷ []) ++ ps = is ∙ sym (append_assoc xs (p ∷ []) ps) in
      let longer : length (xs ++ p ∷ []) ≡ suc k = length_more xs p ∙ ap suc long in
      let rest = each_after (suc k) (xs ++ p ∷ []) ps whole longer h.1 in
      elim (is_late t p) as (λ b. is_late t p ≡ b → EachAfter P (early t xs) (cond (not b) (p ∷ early t ps) (early t ps))) [
        | true ↦ λ e. subst (λ (s : List Posting). EachAfter P s (early t ps)) (early_skips t xs p e) rest
        | false ↦ λ e. (early_ones k xs ps p is long e h.0, subst (λ (s : List Posting). EachAfter P s (early t ps)) (early_takes t xs p e) rest)
      ] refl

none_first : (told : Told) (others : Others) (done ps : List Posting) → EachAfter (Passes told others) done ps → first_failing told others done ps ≡ None
none_first told others done [] h = refl
none_first told others done (p ∷ ps) h =
    let rest = none_first told others (done ++ p ∷ []) ps h.1 in
    λ i. or_else_fault (h.0 i) (rest i)

-- ---- those that are late ask for nothing

nothing : (o : Option Assertion) → is_none o ≡ true → o ≡ None
nothing None h = refl
nothing (Some w) h = absurd (false≢true h)

found_wants : (p : Posting) → is_found p ≡ true → p.wanted ≡ None
found_wants p h = nothing p.wanted (right_true p.filled (is_none p.wanted) h)

found_pass : (told : Told) (others : Others) (ps done : List Posting) → EachAfter (Passes told others) done (filter (is_in part.Found) ps)
found_pass told others [] done = tt
found_pass told others (p ∷ ps) done =
    (elim (is_found p) as (λ b. is_found p ≡ b → EachAfter (Passes told others) done (cond b (p ∷ filter (is_in part.Found) ps) (filter (is_in part.Found) ps))) [
      | true ↦ λ e. (ap (λ (o : Option Assertion). failure_after told others (done ++ p ∷ []) p o) (found_wants p e), found_pass told others ps (done ++ p ∷ []))
      | false ↦ λ e. found_pass told others ps done
    ]) refl

ordered_back : (told : Told) (others : Others) (b : Bool) (ps : List Posting) → EachAfter (Passes told others) [] (filter (λ p. not (late_by b p)) ps) → EachAfter (Passes told others) [] (cond b (filter (is_in part.ButFound) ps ++ filter (is_in part.Found) ps) ps)
ordered_back told others true ps h =
    let same : filter (λ p. not (late_by true p)) ps ≡ filter (is_in part.ButFound) ps = λ i. filter (λ p. not (sym (found_is p) i)) ps in
    each_append (Passes told others) [] (filter (is_in part.ButFound) ps) (filter (is_in part.Found) ps) (subst (EachAfter (Passes told others) []) same h) (found_pass told others ps ([] ++ filter (is_in part.ButFound) ps))
ordered_back told others false ps h = subst (EachAfter (Passes told others) []) (all_early ps) h

-- where each that isn't late passes, none fails
pub none_fails_in_order : (told : Told) (others : Others) (t : Txn) → EachAfter (Passes told others) [] (early t t.postings) → first_failing told others [] (in_order t.postings) ≡ None
none_fails_in_order told others t h = none_first told others [] (in_order t.postings) (ordered_back told others (list_any is_assigned t.postings) t.postings h)

-- ---- what holds passes

none_only : (line : ℕ) (w : Assertion) (f : List ℕ → Value) (o : Option (List ℕ)) (only : Bool) → (only ≡ true → o ≡ None) → failure_at line w (cond only (option_map f o) None) ≡ None
none_only line w f o true h = ap (λ (x : Option (List ℕ)). failure_at line w (option_map f x)) (h refl)
none_only line w f o false h = refl

module _ (told : Told) (others : Others) (book front back : List Txn) (t : Txn) (n : ℕ) (is : book ≡ front ++ t ∷ back) (long : length front ≡ n) (days : AllByRecursion (IsOnDay t) t.postings)
    (few : HaveFew book) (right : AreRight told others book (place_at t n 0)) (unmixed : AllByRecursion (λ p. Unmixed t.postings p.account p.wanted) t.postings) where
  one_passes : (p : Posting) (w : Assertion) (xs ys : List Posting) (m : ℕ) → t.postings ≡ xs ++ ys → length xs ≡ m → Unmixed t.postings p.account (Some w) → Holds w (values_before book p.account w.below (place_at t n m)) → failure_after told others (early t xs) p (Some w) ≡ None
  one_passes p w xs ys m split count one h =
      let total = total_of w.amount.symbol (held_after told w.below p.account w.amount.symbol (early t xs)) in
      let f : List ℕ → Value = λ s. (s, told w.below p.account s) in
      let o : Option (List ℕ) = others w.below p.account w.amount.symbol in
      let same : is_same total w.amount.value ≡ true = ap (λ (z : ℤ). is_eq (int_cmp z (units_of w.amount.value))) (sym (same_units told others book front back t n is long days few right p.account w.amount.symbol w.below xs ys m split count)) ∙ h.sum in
      ap (λ (b : Bool). failure_at p.line w (cond b (cond w.only (option_map f o) None) (Some (w.amount.symbol, total)))) same
      ∙ none_only p.line w f o w.only
      (λ on. sym (beside_same told others book front back t n is long days few right unmixed p w xs ys m split count one on) ∙ ap (λ (vs : List Value). option_map (λ sum. sum.0) (first_of vs)) (h.only on))

  each_one : (p : Posting) (o : Option Assertion) (xs ys : List Posting) (m : ℕ) → t.postings ≡ xs ++ ys → length xs ≡ m → Unmixed t.postings p.account o → HoldsIf o (λ w. values_before book p.account w.below (place_at t n m)) → failure_after told others (early t xs) p o ≡ None
  each_one p None xs ys m split count one h = refl
  each_one p (Some w) xs ys m split count one h = one_passes p w xs ys m split count one h

  early_passes : (k : ℕ) (xs ys : List Posting) (p : Posting) → t.postings ≡ xs ++ p ∷ ys → length xs ≡ k → is_late t p ≡ false → IsAssertedAt book (entry_at t n k p) → Passes told others (early t xs) p
  early_passes k xs ys p split count e h =
      let through : List Posting = xs ++ p ∷ [] in
      let whole : t.postings ≡ through ++ ys = split ∙ sym (append_assoc xs (p ∷ []) ys) in
      let longer : length through ≡ suc k = length_more xs p ∙ ap suc count in
      let U : Posting → Type 0 = λ q. Unmixed t.postings q.account q.wanted in
      let one : U p = (all_rest U xs (p ∷ ys) (subst (AllByRecursion U) split unmixed)).0 in
      let on : IsOnDay t p = (all_rest (IsOnDay t) xs (p ∷ ys) (subst (AllByRecursion (IsOnDay t)) split days)).0 in
      let P : Place → Type 0 = λ q. HoldsIf p.wanted (λ w. values_before book p.account w.below (just_after q)) in
      let R : List Posting → Type 0 = λ done. failure_after told others done p p.wanted ≡ None in
      subst R (early_takes t xs p e) (each_one p p.wanted through ys (suc k) whole longer one (subst P (early_place t n k p on e) h))

  -- none fails where all hold
  pub none_fails : AllByRecursion (IsAssertedAt book) (placed_in t n 0 t.postings) → first_failing told others [] (in_order t.postings) ≡ None
  none_fails h = none_fails_in_order told others t (each_after t n (Passes told others) (IsAssertedAt book) early_passes 0 [] t.postings refl refl h)
