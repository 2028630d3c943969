-- An entry whose amounts sum to zero, and of which nothing is to be found.
use Rattle.std.proofs.Common.{ℕ, ℤ, zero, suc, pos, negsuc, ◌≡◌, ◌+◌, ◌-◌, ◌*◌, ◌^◌, ◌<◌, ◌≤◌, ◌+ℤ◌, Bool, true, false, cond, ◌==◌, ◌&&◌, ◌||◌, not, List, [], ◌∷◌, ◌++◌, map, Option, Some, None, is_none, unsigned_abs, refl, sym, ap, ◌∙◌, arith}
use Rattle.std.specs.Prelude.{nat_le, nat_lt, filter}
use Rattle.std.specs.BTreeSet.{insert_key}
use Rattle.std.specs.List.{flat_map, fold, list_any, AllByRecursion}
use Rattle.std.specs.Ordering.{match_ordering}
use Rattle.std.specs.Str.{bytes_eq}
use Rattle.std.specs.declared.cmp.Ordering.{Ordering}
use Rattle.std.proofs.lemmas.Int.{ints, unsigned_abs-mul}
use Rattle.std.proofs.lemmas.List.Sums.{sum_by-cons}
use Rattle.hl_num.specs.Decimal.{Decimal, units_of}
use Rattle.hl_num.specs.Rounding.{half_even, signed_half_even}
use Rattle.hl_num.proofs.RoundingLemmas.{half_even-mul, pow_ten_positive}
use Rattle.book.specs.Mixed.{plus}
use Rattle.book.specs.Order.{each_once}
use Rattle.book.specs.SumsBefore.{is_assigned}
use Rattle.book.specs.declared.fault.Cause.{Cause}
use Rattle.book.specs.declared.fault.Cause.TheVariants as cause
use Rattle.book.specs.declared.transaction.Posting.{Posting}
use Rattle.book.specs.declared.transaction.Side.{Side}
use Rattle.book.specs.declared.transaction.Side.TheVariants.{Real, Balanced, Free}
use Rattle.book.specs.declared.transaction.Txn.{Txn}
use Rattle.assertions.specs.Assertions.{first_failure}
use Rattle.entry_balance.specs.Entry.{are_opposite, are_plain, assignment_fault, costed_posting, costs_fit, exchanges, fits_alone, has_assignment, has_two_missing, is_missing, is_nothing, is_nothing_at, left_over, missing_count, misses, moved, precision_of, recorded_between, recorded_cost, side_values, solved, solved_posting, unbalanced_by, unbalanced_sums, with_postings}
use Rattle.entry_balance.specs.Tally.{no_sum, numbers_of, sums_of, symbols_in, total_of, turnover_fits}
use Rattle.entry_balance.specs.Values.{Value}
use Rattle.balancing.specs.Groups.{Group, day_of, group_cmp}
use Rattle.balancing.specs.Parts.{is_chosen, part_on, postings_on}
use Rattle.balancing.specs.declared.groups.Part.TheVariants as part
use Rattle.balancing.proofs.SolvingGroups.{same_group}
use Rattle.balancing.proofs.SolvingSums.{at-plus}
use Rattle.book_care.specs.Lines.{Moved}
use Rattle.book_care.proofs.Summing.{lines_in}
use Rattle.book_care.proofs.Totals.{picked}
use Rattle.closed_journals.specs.Added.{Shaped, entry_at, posting_in, postings_from}
use Rattle.closed_journals.proofs.Ordered.{Before, before_less}
use Rattle.closed_journals.proofs.Walking.{IsPlain}

abbrev value : Moved → Value
value m = (m.symbol, m.value)

abbrev values : List Moved → List Value
values ms = map value ms

-- no number has more than 36 decimals
abbrev pub AreFew : List Moved → Type 0
AreFew ms = AllByRecursion (λ m. m.value.places ≤ 36) ms

-- ---- sums

sum_more : (symbol : List ℕ) (ms : List Moved) → AreFew ms → (acc : Decimal) → acc.places ≤ 36 → units_of (fold plus acc (numbers_of symbol (values ms))) ≡ units_of acc +ℤ lines_in symbol ms
sum_more symbol [] all acc few = none (units_of acc)
  where
    none : (x : ℤ) → x ≡ x +ℤ pos 0
    none x = omega (arith, ints)
sum_more symbol (m ∷ ms) all acc few =
    let most : m.value.places ≤ 36 = all.0 in
    elim (bytes_eq m.symbol symbol) as (λ b. units_of (fold plus acc (map (λ (v : Value). v.1) (cond b (value m ∷ filter (λ (v : Value). bytes_eq v.0 symbol) (values ms)) (filter (λ (v : Value). bytes_eq v.0 symbol) (values ms))))) ≡ units_of acc +ℤ (picked b (units_of m.value) +ℤ lines_in symbol ms)) [
      | true ↦ sum_more symbol ms all.1 (plus acc m.value) (omega (arith, most)) ∙ ap (λ (x : ℤ). x +ℤ lines_in symbol ms) (at-plus acc m.value 36 few most) ∙ grouped (units_of acc) (units_of m.value) (lines_in symbol ms)
      | false ↦ sum_more symbol ms all.1 acc few ∙ ap (λ (x : ℤ). units_of acc +ℤ x) (none_first (lines_in symbol ms))
    ]
  where
    grouped : (x y z : ℤ) → (x +ℤ y) +ℤ z ≡ x +ℤ (y +ℤ z)
    grouped x y z = omega (arith, ints)

    none_first : (x : ℤ) → x ≡ pos 0 +ℤ x
    none_first x = omega (arith, ints)

total_is : (symbol : List ℕ) (ms : List Moved) → AreFew ms → units_of (total_of symbol (values ms)) ≡ lines_in symbol ms
total_is symbol ms all = sum_more symbol ms all no_sum (omega arith) ∙ start (lines_in symbol ms)
  where
    start : (x : ℤ) → units_of no_sum +ℤ x ≡ x
    start x = omega (arith, ints)

some_product : (j k : ℕ) → 0 < k → 0 < suc j * k
some_product j k h = omega arith

no_factor : (n k : ℕ) → 0 < k → n * k ≡ 0 → n ≡ 0
no_factor zero k h e = refl
no_factor (suc j) k h e = absurd (let some = some_product j k h in omega (arith, some, e))

no_magnitude : (z : ℤ) → unsigned_abs z ≡ 0 → z ≡ pos 0
no_magnitude (pos n) e = ap pos e
no_magnitude (negsuc j) e = absurd (let never : suc j ≡ 0 = e in omega (arith, never))

no_mantissa : (d : Decimal) → units_of d ≡ pos 0 → d.mantissa ≡ pos 0
no_mantissa d e =
    let k = 10 ^ (36 - d.places) in
    no_magnitude d.mantissa (no_factor (unsigned_abs d.mantissa) k (pow_ten_positive (36 - d.places)) (sym (unsigned_abs-mul d.mantissa (pos k)) ∙ ap unsigned_abs e))

half_zero : (k : ℕ) → 0 < k → half_even 0 k ≡ 0
half_zero k h = ap (λ (n : ℕ). half_even n k) (none k) ∙ half_even-mul 0 k h
  where
    none : (k : ℕ) → 0 ≡ 0 * k
    none k = omega arith

abbrev shortened : Decimal → ℕ → Decimal
shortened d p = record { mantissa = signed_half_even d.mantissa (10 ^ (d.places - p)); places = p }

zero_at : (o : Option ℕ) (d : Decimal) → d.mantissa ≡ pos 0 → is_nothing_at o d ≡ true
zero_at None d e = ap (λ (z : ℤ). unsigned_abs z == 0) e
zero_at (Some p) d e = by (nat_le d.places p)
  where
    by : (t : Bool) → is_nothing (cond t d (shortened d p)) ≡ true
    by true = ap (λ (z : ℤ). unsigned_abs z == 0) e
    by false =
        ap (λ (z : ℤ). unsigned_abs (signed_half_even z (10 ^ (d.places - p))) == 0) e
        ∙ ap (λ (n : ℕ). n == 0) (half_zero (10 ^ (d.places - p)) (pow_ten_positive (d.places - p)))

-- ---- one entry

module _ (shape : Shaped) where
  abbrev texts : ℕ → List Moved → List Posting
  texts n ms = postings_from shape n ms

  no_assignment : (n : ℕ) (ms : List Moved) → has_assignment (texts n ms) ≡ false
  no_assignment n [] = refl
  no_assignment n (m ∷ ms) = no_assignment (suc n) ms

  none_assigned : (n : ℕ) (ms : List Moved) → list_any is_assigned (texts n ms) ≡ false
  none_assigned n [] = refl
  none_assigned n (m ∷ ms) = none_assigned (suc n) ms

  none_missing : (side : Side) (n : ℕ) (ms : List Moved) → missing_count side (texts n ms) ≡ 0
  none_missing side n [] = refl
  none_missing Real n (m ∷ ms) = sum_by-cons (λ (p : Posting). cond (is_missing Real p) 1 0) (posting_in (shape m) n m) (texts (suc n) ms) ∙ ap (λ (k : ℕ). 0 + k) (none_missing Real (suc n) ms)
  none_missing Balanced n (m ∷ ms) = sum_by-cons (λ (p : Posting). cond (is_missing Balanced p) 1 0) (posting_in (shape m) n m) (texts (suc n) ms) ∙ ap (λ (k : ℕ). 0 + k) (none_missing Balanced (suc n) ms)
  none_missing Free n (m ∷ ms) = sum_by-cons (λ (p : Posting). cond (is_missing Free p) 1 0) (posting_in (shape m) n m) (texts (suc n) ms) ∙ ap (λ (k : ℕ). 0 + k) (none_missing Free (suc n) ms)

  no_two : (n : ℕ) (ms : List Moved) → has_two_missing (texts n ms) ≡ false
  no_two n ms =
      let real = none_missing Real n ms in
      let balanced = none_missing Balanced n ms in
      let free = none_missing Free n ms in
      ap (λ (k : ℕ). nat_lt 1 k || nat_lt 1 (missing_count Balanced (texts n ms)) || nat_lt 0 (missing_count Free (texts n ms))) real
      ∙ ap (λ (k : ℕ). nat_lt 1 k || nat_lt 0 (missing_count Free (texts n ms))) balanced
      ∙ ap (λ (k : ℕ). nat_lt 0 k) free

  no_costs : (n : ℕ) (ms : List Moved) → costs_fit (texts n ms) ≡ true
  no_costs n [] = refl
  no_costs n (m ∷ ms) = no_costs (suc n) ms

  real_values : (n : ℕ) (ms : List Moved) → side_values Real (texts n ms) ≡ values ms
  real_values n [] = refl
  real_values n (m ∷ ms) = ap (λ (vs : List Value). value m ∷ vs) (real_values (suc n) ms)

  no_balanced : (n : ℕ) (ms : List Moved) → side_values Balanced (texts n ms) ≡ []
  no_balanced n [] = refl
  no_balanced n (m ∷ ms) = no_balanced (suc n) ms

  none_left : (ps : List Posting) (vs : List Value) (symbols : List (List ℕ)) → ((symbol : List ℕ) → (total_of symbol vs).mantissa ≡ pos 0)
      → filter (λ (sum : Value). not (is_nothing_at (precision_of sum.0 ps) sum.1)) (map (λ symbol. (symbol, total_of symbol vs)) symbols) ≡ []
  none_left ps vs [] f = refl
  none_left ps vs (symbol ∷ symbols) f =
      let left = filter (λ (sum : Value). not (is_nothing_at (precision_of sum.0 ps) sum.1)) (map (λ s. (s, total_of s vs)) symbols) in
      ap (λ (t : Bool). cond (not t) ((symbol, total_of symbol vs) ∷ left) left) (zero_at (precision_of symbol ps) (total_of symbol vs) (f symbol))
      ∙ none_left ps vs symbols f

  module _ (n : ℕ) (ms : List Moved) (few : AreFew ms) (even : (symbol : List ℕ) → lines_in symbol ms ≡ pos 0) where
    abbrev ps : List Posting
    ps = texts n ms

    none_over : left_over Real ps ≡ []
    none_over =
        ap (λ (vs : List Value). filter (λ (sum : Value). not (is_nothing_at (precision_of sum.0 ps) sum.1)) (sums_of vs)) (real_values n ms)
        ∙ none_left ps (values ms) (symbols_in (values ms)) (λ symbol. no_mantissa (total_of symbol (values ms)) (total_is symbol ms few ∙ even symbol))

    none_balanced : left_over Balanced ps ≡ []
    none_balanced = ap (λ (vs : List Value). filter (λ (sum : Value). not (is_nothing_at (precision_of sum.0 ps) sum.1)) (sums_of vs)) (no_balanced n ms)

    and_false : (a : Bool) → (a && false) ≡ false
    and_false true = refl
    and_false false = refl

    no_exchange : exchanges ps ≡ false
    no_exchange = ap (λ (vs : List Value). are_plain ps && are_opposite vs) none_over ∙ and_false (are_plain ps)

    no_cost : recorded_cost ps ≡ None
    no_cost = ap (λ (t : Bool). cond t (recorded_between (left_over Real ps) ps) None) no_exchange

  solved_among : (all : List Posting) (n : ℕ) (ms : List Moved) → recorded_cost all ≡ None → flat_map (λ p. solved_posting all p p.amount) (texts n ms) ≡ texts n ms
  solved_among all n [] h = refl
  solved_among all n (m ∷ ms) h =
      ap (λ (c : Option (List ℕ × Value)). (costed_posting c (posting_in (shape m) n m) ∷ []) ++ flat_map (λ p. solved_posting all p p.amount) (texts (suc n) ms)) h
      ∙ ap (λ (qs : List Posting). posting_in (shape m) n m ∷ qs) (solved_among all (suc n) ms h)

  either_none : (t : Bool) → cond {A = List Value} t [] [] ≡ []
  either_none true = refl
  either_none false = refl

  none_unbalanced : (qs : List Posting) → left_over Real qs ≡ [] → left_over Balanced qs ≡ [] → unbalanced_sums qs ≡ []
  none_unbalanced qs real balanced =
      ap (λ (vs : List Value). cond (misses Real qs || exchanges qs) [] vs ++ cond (misses Balanced qs) [] (left_over Balanced qs)) real
      ∙ ap (λ (vs : List Value). vs ++ cond (misses Balanced qs) [] (left_over Balanced qs)) (either_none (misses Real qs || exchanges qs))
      ∙ ap (λ (vs : List Value). cond (misses Balanced qs) [] vs) balanced
      ∙ either_none (misses Balanced qs)

  cause_by : (a b : Bool) (c d : Bool) (x y z w u : Option Cause) → a ≡ false → b ≡ false → c ≡ d → z ≡ u → cond a x (cond b y (cond c z w)) ≡ cond d u w
  cause_by a b c d x y z w u ea eb ec ez = rw (ea, eb, ec, ez) refl

  -- ---- what it claims, and its group

  chosen_none : (seen : List Posting) (f : Posting → Bool) (n : ℕ) (ms : List Moved) → first_failure seen (filter f (texts n ms)) ≡ None
  chosen_none seen f n [] = refl
  chosen_none seen f n (m ∷ ms) =
      let p = posting_in (shape m) n m in
      elim (f p) as (λ b. first_failure seen (cond b (p ∷ filter f (texts (suc n) ms)) (filter f (texts (suc n) ms))) ≡ None) [
        | true ↦ chosen_none (seen ++ p ∷ []) f (suc n) ms
        | false ↦ chosen_none seen f (suc n) ms
      ]

  unclaimed : (seen : List Posting) (day : ℕ) (t : Txn) (n : ℕ) (ms : List Moved) → t.postings ≡ texts n ms → first_failure seen (postings_on day t) ≡ None
  unclaimed seen day t n ms e =
      ap (λ (b : Bool). first_failure seen (cond b (part_on part.ButFound day t ++ part_on part.Found day t) (part_on part.All day t))) (ap (list_any is_assigned) e ∙ none_assigned n ms)
      ∙ ap (λ (qs : List Posting). first_failure seen (filter (is_chosen part.All day t) qs)) e
      ∙ chosen_none seen (is_chosen part.All day t) n ms

  abbrev at_day : Txn → ℕ → List Posting → List Group
  at_day t g qs = map (λ q. (day_of t q, g)) qs

  own_alone : (t : Txn) (g n : ℕ) (m : Moved) (ms : List Moved) → each_once group_cmp (at_day t g (texts n (m ∷ ms)) ++ []) ≡ (t.day.0, g) ∷ []
  own_alone t g n m [] = refl
  own_alone t g n m (next ∷ ms) =
      let p : Group = (t.day.0, g) in
      ap (λ (gs : List Group). insert_key group_cmp gs p) (own_alone t g (suc n) next ms) ∙ again_one p
    where
      again_one : (p : Group) → insert_key group_cmp (p ∷ []) p ≡ p ∷ []
      again_one p = ap (λ (o : Ordering). match_ordering o (p ∷ p ∷ []) (p ∷ []) (p ∷ p ∷ [])) (same_group p)

  own_first : (t : Txn) (g n : ℕ) (m : Moved) (ms : List Moved) (more : List Group) (next : Group) → Before (t.day.0, g) next → each_once group_cmp more ≡ next ∷ []
      → each_once group_cmp (at_day t g (texts n (m ∷ ms)) ++ more) ≡ (t.day.0, g) ∷ next ∷ []
  own_first t g n m [] more next before e =
      let p : Group = (t.day.0, g) in
      ap (λ (gs : List Group). insert_key group_cmp gs p) e
      ∙ ap (λ (o : Ordering). match_ordering o (p ∷ next ∷ []) (next ∷ []) (next ∷ p ∷ [])) (before_less p next before)
  own_first t g n m (other ∷ ms) more next before e =
      let p : Group = (t.day.0, g) in
      ap (λ (gs : List Group). insert_key group_cmp gs p) (own_first t g (suc n) other ms more next before e)
      ∙ ap (λ (o : Ordering). match_ordering o (p ∷ p ∷ next ∷ []) (p ∷ next ∷ []) (p ∷ insert_key group_cmp (next ∷ []) p)) (same_group p)

  -- An entry of such lines is plain.
  pub is_plain : (number day : ℕ) (description : List ℕ) (m : Moved) (ms : List Moved) → AreFew (m ∷ ms) → ((symbol : List ℕ) → lines_in symbol (m ∷ ms) ≡ pos 0)
      → IsPlain (entry_at shape number day description (m ∷ ms))
  is_plain number day description m ms few even =
      let n = suc number in
      let lines : List Moved = m ∷ ms in
      let qs = texts n lines in
      let t = entry_at shape number day description lines in
      let cost = no_cost n lines few even in
      let found : solved qs ≡ qs = solved_among qs n lines cost in
      record {
        ready = ap (λ (b : Bool). b && is_none (assignment_fault qs)) (no_assignment n lines);
        settled_is = ap (λ (xs : List Posting). with_postings t xs) found;
        cause_is =
            cause_by (has_assignment qs) (has_two_missing qs) (fits_alone qs) (turnover_fits (moved qs)) (assignment_fault qs) (Some cause.TwoMissing) (unbalanced_by (unbalanced_sums qs)) (Some cause.Range) None
            (no_assignment n lines) (no_two n lines)
            (ap (λ (b : Bool). b && turnover_fits (moved (solved qs))) (no_costs n lines) ∙ ap (λ (xs : List Posting). turnover_fits (moved xs)) found)
            (ap unbalanced_by (none_unbalanced qs (none_over n lines few even) (none_balanced n lines few even)));
        unclaimed = λ seen d. unclaimed seen d t n lines refl;
        own = λ g. own_alone t g n m ms;
        own_before = λ g more next before e. own_first t g n m ms more next before e;
      }
