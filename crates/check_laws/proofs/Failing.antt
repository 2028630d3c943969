-- The first assertion of a transaction that fails is found by what accounts hold before it as by the places of the book,
-- with an amount that is one by value.
use Rattle.std.proofs.Common.{◌≡◌, ℕ, ℤ, pos, suc, ◌+ℤ◌, Bool, true, false, ◌&&◌, cond, not, eqb, List, [], ◌∷◌, ◌++◌, length, map, filter, Option, Some, None, is_some, is_none, inl, inr, refl, sym, ap, subst, ◌∙◌, append_assoc, arith}
use Rattle.std.specs.List.{AllByRecursion, find, list_any}
use Rattle.std.specs.Option.{option_map}
use Rattle.std.specs.Ordering.{int_cmp, is_eq}
use Rattle.std.specs.Str.{bytes_eq}
use Rattle.std.proofs.lemmas.Bool.{false≢true}
use Rattle.std.proofs.lemmas.Bool.Decides.{Decides-eqb}
use Rattle.std.proofs.lemmas.Int.{ints}
use Rattle.std.proofs.lemmas.List.{append-nil}
use Rattle.hl_num.specs.Decimal.{Decimal, units_of}
use Rattle.book.specs.Sums.{share, sum_of}
use Rattle.book.specs.SumsBefore.{Place, is_assigned, is_of, placed_in, sum_before}
use Rattle.book.specs.declared.amount.Amount.{Amount}
use Rattle.book.specs.declared.amount.Assertion.{Assertion}
use Rattle.book.specs.declared.fault.Fault.{Fault}
use Rattle.book.specs.declared.transaction.Posting.{Posting}
use Rattle.book.specs.declared.transaction.Txn.{Txn}
use Rattle.entry_balance.specs.Entry as amounts
use Rattle.entry_balance.specs.Entry.{is_nothing}
use Rattle.entry_balance.specs.Tally.{sums_of, symbols_in, total_of}
use Rattle.entry_balance.specs.Values.{Value}
use Rattle.entry_balance.proofs.Named.{left_true, right_true}
use Rattle.entry_balance.proofs.Turnover.{alike}
use Rattle.assertions.specs.Assertions.{failure_at, first_of, found_instead, is_other, is_same, or_else_fault}
use Rattle.balancing.specs.Faults.{failure_by, failure_if, failure_in, fails}
use Rattle.balancing.specs.Groups.{day_of}
use Rattle.balancing.specs.Parts.{is_chosen, is_found}
use Rattle.balancing.specs.declared.groups.Part.TheVariants as part
use Rattle.balancing.specs.Solves.{HaveFew, just_after, values_before}
use Rattle.balancing.proofs.SolvingUnits.{sum_at}
use Rattle.balancing.proofs.SolvingWalk.{placed_on, placed_on_by}
use Rattle.entry_check.specs.Checked.{Others, Told, failure_after, first_failing, held_after}
use Rattle.placed_checks.specs.Placed.{AreRight}
use Rattle.placed_checks.proofs.Asserting.{IsAlike, Unmixed, beside_same}
use Rattle.placed_checks.proofs.Elsewhere.{Entry}
use Rattle.placed_checks.proofs.Lists.{all_chosen, all_first, all_rest, length_more}
use Rattle.placed_checks.proofs.Ordered.{found_is}
use Rattle.placed_checks.proofs.Own.{IsOnDay, early, early_place, early_skips, early_takes, entry_at, is_late, late_by, place_at}
use Rattle.placed_checks.proofs.Through.{sum_through}
use Rattle.placed_checks.proofs.Units.{same_units}
use Rattle.check_laws.specs.Valued.{AreOneFault}

-- two faults that may be there are one by value, or neither is
abbrev pub AreOneIf : Option Fault → Option Fault → Type 0
AreOneIf None None = Unit {0}
AreOneIf None (Some g) = ⊥
AreOneIf (Some f) None = ⊥
AreOneIf (Some f) (Some g) = AreOneFault f g

-- so are two values
abbrev AlikeIf : Option Value → Option Value → Type 0
AlikeIf None None = Unit {0}
AlikeIf None (Some v) = ⊥
AlikeIf (Some u) None = ⊥
AlikeIf (Some u) (Some v) = (u.0 ≡ v.0) × (units_of u.1 ≡ units_of v.1)

-- ---- one assertion

failing_alike : (line : ℕ) (w : Assertion) (f g : Option Value) → AlikeIf f g → AreOneIf (failure_at line w f) (failure_at line w g)
failing_alike line w None None h = tt
failing_alike line w None (Some v) h = absurd h
failing_alike line w (Some u) None h = absurd h
failing_alike line w (Some u) (Some v) h = record { line = refl; cause = (refl, record { symbol = h.0; value = h.1 }) }

found_alike : (line : ℕ) (w : Assertion) (b only : Bool) (f g : Option Value) (u v : Value) → AlikeIf (Some u) (Some v) → (only ≡ true → AlikeIf f g) → AreOneIf (failure_at line w (cond b (cond only f None) (Some u))) (failure_at line w (cond b (cond only g None) (Some v)))
found_alike line w true true f g u v one two = failing_alike line w f g (two refl)
found_alike line w true false f g u v one two = tt
found_alike line w false only f g u v one two = failing_alike line w (Some u) (Some v) one

value_is : (u v : Value) → Some u ≡ Some v → u ≡ v
value_is u v h = let same : u ≡ v = cc in same

none≢some : (v : Value) → ◌≡◌ {A = Option Value} None (Some v) → ⊥
none≢some v h = cc

-- the first of some sums that pass a test
first_sum : (test : Value → Bool) (total : List ℕ → Decimal) (ss : List (List ℕ)) (v : Value) → first_of (filter test (map (λ s. (s, total s)) ss)) ≡ Some v → (v.1 ≡ total v.0) × (test v ≡ true)
first_sum test total [] v h = absurd (none≢some v h)
first_sum test total (s ∷ ss) v h =
    elim (test (s, total s)) as (λ b. test (s, total s) ≡ b → first_of (cond b ((s, total s) ∷ filter test (map (λ s. (s, total s)) ss)) (filter test (map (λ s. (s, total s)) ss))) ≡ Some v → (v.1 ≡ total v.0) × (test v ≡ true)) [
      | true ↦ λ e k. subst (λ (v : Value). (v.1 ≡ total v.0) × (test v ≡ true)) (value_is (s, total s) v k) (refl, e)
      | false ↦ λ e k. first_sum test total ss v k
    ] refl h

named_alike : (f : Option Value) (told : List ℕ → Decimal) → ((v : Value) → f ≡ Some v → units_of v.1 ≡ units_of (told v.0)) → AlikeIf f (option_map (λ s. (s, told s)) (option_map (λ (v : Value). v.0) f))
named_alike None told h = tt
named_alike (Some v) told h = (refl, h v refl)

is_not : (b : Bool) → not b ≡ true → b ≡ false
is_not true h = absurd (false≢true h)
is_not false h = refl

add_none : (x : ℤ) → x +ℤ pos 0 ≡ x
add_none x = omega (arith, ints)

-- postings of one symbol have no sum in another
none_in : (symbol s : List ℕ) (o : Option Amount) (z : ℤ) → bytes_eq s symbol ≡ false → amounts.is_of symbol o ≡ true → z ≡ pos 0 → share s o +ℤ z ≡ pos 0
none_in symbol s None z apart h none = ap (λ (x : ℤ). pos 0 +ℤ x) none
none_in symbol s (Some a) z apart h none =
    elim (alike a.symbol s) [
      | inl same ↦ absurd (false≢true (sym apart ∙ ap (λ (x : List ℕ). bytes_eq x symbol) (sym same) ∙ h))
      | inr other ↦ ap (λ (b : Bool). cond b (units_of a.value) (pos 0) +ℤ z) other ∙ ap (λ (x : ℤ). pos 0 +ℤ x) none
    ]

none_of_it : (account symbol : List ℕ) (below : Bool) (s : List ℕ) → bytes_eq s symbol ≡ false → (ps : List Posting) → AllByRecursion (λ q. is_of account below q.account ≡ true → amounts.is_of symbol q.amount ≡ true) ps → sum_of s (filter (λ q. is_of account below q.account) ps) ≡ pos 0
none_of_it account symbol below s apart [] h = refl
none_of_it account symbol below s apart (p ∷ ps) h =
    let rest = none_of_it account symbol below s apart ps h.1 in
    let left : List Posting = filter (λ q. is_of account below q.account) ps in
    elim (is_of account below p.account) as (λ b. is_of account below p.account ≡ b → sum_of s (cond b (p ∷ left) left) ≡ pos 0) [
      | true ↦ λ on. none_in symbol s p.amount (sum_of s left) apart (h.0 on) rest
      | false ↦ λ off. rest
    ] refl

-- the fault of a posting's assertion among some amounts
abbrev failure_by_values : Posting → Option Assertion → (Assertion → List Value) → Option Fault
failure_by_values p None values = None
failure_by_values p (Some w) values = failure_at p.line w (found_instead w (values w))

by_place : (book : List Txn) (place : Place) (p : Posting) (o : Option Assertion) → failure_by book place p o ≡ failure_by_values p o (λ w. values_before book p.account w.below (just_after place))
by_place book place p None = refl
by_place book place p (Some w) = refl

-- ---- one after the other

-- each entry after those before it
abbrev pub EachBoth : (List Posting → Entry → Type 0) → List Posting → List Entry → Type 0
EachBoth P done [] = Unit {0}
EachBoth P done (e ∷ es) = P done e × EachBoth P (done ++ e.1 ∷ []) es

both_append : (P : List Posting → Entry → Type 0) (done : List Posting) (es fs : List Entry) → EachBoth P done es → EachBoth P (done ++ map (λ (e : Entry). e.1) es) fs → EachBoth P done (es ++ fs)
both_append P done [] fs h k = subst (λ (ps : List Posting). EachBoth P ps fs) (append-nil done) k
both_append P done (e ∷ es) fs h k =
    (h.0, both_append P (done ++ e.1 ∷ []) es fs h.1 (subst (λ (ps : List Posting). EachBoth P ps fs) (sym (append_assoc done (e.1 ∷ []) (map (λ (e : Entry). e.1) es))) k))

module _ (told : Told) (others : Others) (book : List Txn) where
  abbrev pub FailAlike : List Posting → Entry → Type 0
  FailAlike done e = AreOneIf (failure_in book e) (failure_after told others (done ++ e.1 ∷ []) e.1 e.1.wanted)

  first_step : (e : Entry) (x y : Option Fault) (rest : Option Entry) (later : Option Fault) → failure_in book e ≡ x → AreOneIf x y → AreOneIf (failure_if book rest) later → AreOneIf (failure_if book (cond (is_some x) (Some e) rest)) (or_else_fault y later)
  first_step e None None rest later is h k = k
  first_step e None (Some g) rest later is h k = absurd h
  first_step e (Some f) None rest later is h k = absurd h
  first_step e (Some f) (Some g) rest later is h k = subst (λ (o : Option Fault). AreOneIf o (Some g)) (sym is) h

  -- the first that fails is one by value
  pub first_alike : (done : List Posting) (es : List Entry) → EachBoth FailAlike done es → AreOneIf (failure_if book (find (fails book) es)) (first_failing told others done (map (λ (e : Entry). e.1) es))
  first_alike done [] h = tt
  first_alike done (e ∷ es) h = first_step e (failure_in book e) (failure_after told others (done ++ e.1 ∷ []) e.1 e.1.wanted) (find (fails book) es) (first_failing told others (done ++ e.1 ∷ []) (map (λ (e : Entry). e.1) es)) refl h.0 (first_alike (done ++ e.1 ∷ []) es h.1)

  -- what is asked of nothing doesn't fail
  late_alike : (t : Txn) (n : ℕ) (day : ℕ) (done : List Posting) (k : ℕ) (ps : List Posting) → EachBoth FailAlike done (filter (λ e. is_chosen part.Found day t e.1) (placed_in t n k ps))
  late_alike t n day done k [] = tt
  late_alike t n day done k (p ∷ ps) =
      let rest = late_alike t n day done (suc k) ps in
      elim (is_chosen part.Found day t p) as (λ b. is_chosen part.Found day t p ≡ b → EachBoth FailAlike done (cond b (entry_at t n k p ∷ filter (λ e. is_chosen part.Found day t e.1) (placed_in t n (suc k) ps)) (filter (λ e. is_chosen part.Found day t e.1) (placed_in t n (suc k) ps)))) [
        | true ↦ λ e. (nothing (entry_at t n k p) (p.wanted) (unwanted p.wanted (right_true p.filled (is_none p.wanted) (right_true (eqb (day_of t p) day) (is_found p) e))) refl, late_alike t n day (done ++ p ∷ []) (suc k) ps)
        | false ↦ λ e. rest
      ] refl
    where
      unwanted : (o : Option Assertion) → is_none o ≡ true → o ≡ None
      unwanted None h = refl
      unwanted (Some w) h = absurd (false≢true h)

      nothing : (e : Entry) (o : Option Assertion) → o ≡ None → e.1.wanted ≡ o → AreOneIf (failure_by book e.0 e.1 e.1.wanted) (failure_after told others (done ++ e.1 ∷ []) e.1 e.1.wanted)
      nothing e o none is = subst (λ (x : Option Assertion). AreOneIf (failure_by book e.0 e.1 x) (failure_after told others (done ++ e.1 ∷ []) e.1 x)) (sym (is ∙ none)) tt

module _ (told : Told) (others : Others) (book front back : List Txn) (t : Txn) (n : ℕ) (is : book ≡ front ++ t ∷ back) (long : length front ≡ n) (days : AllByRecursion (IsOnDay t) t.postings)
    (few : HaveFew book) (right : AreRight told others book (place_at t n 0)) (unmixed : AllByRecursion (λ p. Unmixed t.postings p.account p.wanted) t.postings) where
  -- in another symbol than the one that alone may be there an account holds what it held before
  other_units : (account symbol s : List ℕ) (below : Bool) (xs ys : List Posting) (k : ℕ) → t.postings ≡ xs ++ ys → length xs ≡ k → bytes_eq s symbol ≡ false → AllByRecursion (λ q. is_of account below q.account ≡ true → amounts.is_of symbol q.amount ≡ true) (early t xs)
      → units_of (total_of s (values_before book account below (place_at t n k))) ≡ units_of (told below account s)
  other_units account symbol s below xs ys k split count apart alike_ones =
      let old : ℤ = sum_before book account s below (place_at t n 0) in
      sum_at book few account below (place_at t n k) s
      ∙ sum_through book front back t n is long days account below s k xs ys split count
      ∙ ap (λ (z : ℤ). old +ℤ z) (none_of_it account symbol below s apart (early t xs) alike_ones)
      ∙ add_none old
      ∙ sym (right.sums below account s)

  -- the first other symbol's sum
  beside_units : (p : Posting) (w : Assertion) (xs ys : List Posting) (k : ℕ) → t.postings ≡ xs ++ ys → length xs ≡ k → Unmixed t.postings p.account (Some w) → w.only ≡ true
      → (v : Value) → first_of (filter (is_other w.amount.symbol) (sums_of (values_before book p.account w.below (place_at t n k)))) ≡ Some v → units_of v.1 ≡ units_of (told w.below p.account v.0)
  beside_units p w xs ys k split count one on v at =
      let symbol : List ℕ = w.amount.symbol in
      let values : List Value = values_before book p.account w.below (place_at t n k) in
      let P : Posting → Type 0 = IsAlike p.account w in
      let found : (v.1 ≡ total_of v.0 values) × (is_other symbol v ≡ true) = first_sum (is_other symbol) (λ s. total_of s values) (symbols_in values) v at in
      let apart : bytes_eq v.0 symbol ≡ false = is_not (bytes_eq v.0 symbol) (left_true (not (bytes_eq v.0 symbol)) (not (is_nothing v.1)) found.1) in
      ap units_of found.0
      ∙ other_units p.account symbol v.0 w.below xs ys k split count apart (all_chosen P (λ q. not (is_late t q)) xs (all_first P xs ys (subst (AllByRecursion P) split (one on))))

  beside_alike : (p : Posting) (w : Assertion) (xs ys : List Posting) (k : ℕ) → t.postings ≡ xs ++ ys → length xs ≡ k → Unmixed t.postings p.account (Some w) → w.only ≡ true
      → AlikeIf (first_of (filter (is_other w.amount.symbol) (sums_of (values_before book p.account w.below (place_at t n k))))) (option_map (λ s. (s, told w.below p.account s)) (others w.below p.account w.amount.symbol))
  beside_alike p w xs ys k split count one on =
      let f : Option Value = first_of (filter (is_other w.amount.symbol) (sums_of (values_before book p.account w.below (place_at t n k)))) in
      subst (λ (o : Option (List ℕ)). AlikeIf f (option_map (λ s. (s, told w.below p.account s)) o))
      (beside_same told others book front back t n is long days few right unmixed p w xs ys k split count one on)
      (named_alike f (λ s. told w.below p.account s) (beside_units p w xs ys k split count one on))

  one_alike : (p : Posting) (w : Assertion) (xs ys : List Posting) (k : ℕ) → t.postings ≡ xs ++ ys → length xs ≡ k → Unmixed t.postings p.account (Some w)
      → AreOneIf (failure_at p.line w (found_instead w (values_before book p.account w.below (place_at t n k)))) (failure_after told others (early t xs) p (Some w))
  one_alike p w xs ys k split count one =
      let symbol : List ℕ = w.amount.symbol in
      let values : List Value = values_before book p.account w.below (place_at t n k) in
      let total : Decimal = total_of symbol (held_after told w.below p.account symbol (early t xs)) in
      let units : units_of (total_of symbol values) ≡ units_of total = same_units told others book front back t n is long days few right p.account symbol w.below xs ys k split count in
      let test : is_same (total_of symbol values) w.amount.value ≡ is_same total w.amount.value = ap (λ (z : ℤ). is_eq (int_cmp z (units_of w.amount.value))) units in
      let f : Option Value = first_of (filter (is_other symbol) (sums_of values)) in
      let g : Option Value = option_map (λ s. (s, told w.below p.account s)) (others w.below p.account symbol) in
      subst (λ (b : Bool). AreOneIf (failure_at p.line w (cond b (cond w.only f None) (Some (symbol, total_of symbol values)))) (failure_after told others (early t xs) p (Some w))) (sym test)
      (found_alike p.line w (is_same total w.amount.value) w.only f g (symbol, total_of symbol values) (symbol, total) (refl, units) (beside_alike p w xs ys k split count one))

  each_alike : (p : Posting) (o : Option Assertion) (xs ys : List Posting) (k : ℕ) → t.postings ≡ xs ++ ys → length xs ≡ k → Unmixed t.postings p.account o
      → AreOneIf (failure_by_values p o (λ w. values_before book p.account w.below (place_at t n k))) (failure_after told others (early t xs) p o)
  each_alike p None xs ys k split count one = tt
  each_alike p (Some w) xs ys k split count one = one_alike p w xs ys k split count one

  early_alike : (k : ℕ) (xs ys : List Posting) (p : Posting) → t.postings ≡ xs ++ p ∷ ys → length xs ≡ k → is_late t p ≡ false → FailAlike told others book (early t xs) (entry_at t n k p)
  early_alike k xs ys p split count e =
      let through : List Posting = xs ++ p ∷ [] in
      let whole : t.postings ≡ through ++ ys = split ∙ sym (append_assoc xs (p ∷ []) ys) in
      let longer : length through ≡ suc k = length_more xs p ∙ ap suc count in
      let U : Posting → Type 0 = λ q. Unmixed t.postings q.account q.wanted in
      let one : U p = (all_rest U xs (p ∷ ys) (subst (AllByRecursion U) split unmixed)).0 in
      let on : IsOnDay t p = (all_rest (IsOnDay t) xs (p ∷ ys) (subst (AllByRecursion (IsOnDay t)) split days)).0 in
      let here = each_alike p p.wanted through ys (suc k) whole longer one in
      let R : List Posting → Type 0 = λ done. AreOneIf (failure_in book (entry_at t n k p)) (failure_after told others done p p.wanted) in
      subst R (early_takes t xs p e)
      (subst (λ (o : Option Fault). AreOneIf o (failure_after told others (early t through) p p.wanted))
      (sym (ap (λ (place : Place). failure_by book place p p.wanted) (early_place t n k p on e) ∙ by_place book (place_at t n k) p p.wanted)) here)

  -- those that are chosen just where they aren't late
  early_all : (c : Posting → Bool) (k : ℕ) (xs ps : List Posting) → t.postings ≡ xs ++ ps → length xs ≡ k → AllByRecursion (λ p. c p ≡ not (is_late t p)) ps → EachBoth (FailAlike told others book) (early t xs) (filter (λ e. c e.1) (placed_in t n k ps))
  early_all c k xs [] split count h = tt
  early_all c k xs (p ∷ ps) split count h =
      let whole : t.postings ≡ (xs ++ p ∷ []) ++ ps = split ∙ sym (append_assoc xs (p ∷ []) ps) in
      let longer : length (xs ++ p ∷ []) ≡ suc k = length_more xs p ∙ ap suc count in
      let rest = early_all c (suc k) (xs ++ p ∷ []) ps whole longer h.1 in
      let es : List Entry = filter (λ e. c e.1) (placed_in t n (suc k) ps) in
      let E : List Posting → List Entry → Type 0 = EachBoth (FailAlike told others book) in
      subst (λ (b : Bool). E (early t xs) (cond b (entry_at t n k p ∷ es) es)) (sym h.0)
      (elim (is_late t p) as (λ b. is_late t p ≡ b → E (early t xs) (cond (not b) (entry_at t n k p ∷ es) es)) [
        | true ↦ λ e. subst (λ (s : List Posting). E s es) (early_skips t xs p e) rest
        | false ↦ λ e. (early_alike k xs ps p split count e, subst (λ (s : List Posting). E s es) (early_takes t xs p e) rest)
      ] refl)

  chosen_early : (a : Bool) (ps : List Posting) → list_any is_assigned t.postings ≡ a → AllByRecursion (IsOnDay t) ps → AllByRecursion (λ p. is_chosen (cond a part.ButFound part.All) t.day.0 t p ≡ not (is_late t p)) ps
  chosen_early a [] is on = tt
  chosen_early true (p ∷ ps) is on = (
    (λ i. (Decides-eqb (day_of t p) t.day.0).1 on.0 i && not (found_is p i)) ∙ ap (λ (b : Bool). not (late_by b p)) (sym is),
    chosen_early true ps is on.1,
  )
  chosen_early false (p ∷ ps) is on = (
    ap (λ (b : Bool). b && true) ((Decides-eqb (day_of t p) t.day.0).1 on.0) ∙ ap (λ (b : Bool). not (late_by b p)) (sym is),
    chosen_early false ps is on.1,
  )

  group_by : (a : Bool) → list_any is_assigned t.postings ≡ a → EachBoth (FailAlike told others book) [] (placed_on_by a t.day.0 n t)
  group_by true is =
      both_append (FailAlike told others book) [] (filter (λ e. is_chosen part.ButFound t.day.0 t e.1) (placed_in t n 0 t.postings)) (filter (λ e. is_chosen part.Found t.day.0 t e.1) (placed_in t n 0 t.postings))
      (early_all (is_chosen part.ButFound t.day.0 t) 0 [] t.postings refl refl (chosen_early true t.postings is days))
      (late_alike told others book t n t.day.0 ([] ++ map (λ (e : Entry). e.1) (filter (λ e. is_chosen part.ButFound t.day.0 t e.1) (placed_in t n 0 t.postings))) 0 t.postings)
  group_by false is = early_all (is_chosen part.All t.day.0 t) 0 [] t.postings refl refl (chosen_early false t.postings is days)

  -- the first of the group's assertions that fails
  pub group_alike : AreOneIf (failure_if book (find (fails book) (placed_on t.day.0 n t))) (first_failing told others [] (map (λ (e : Entry). e.1) (placed_on t.day.0 n t)))
  group_alike = first_alike told others book [] (placed_on t.day.0 n t) (group_by (list_any is_assigned t.postings) refl)
