-- The sums of absolute amounts, and one amount more.
use Rattle.std.proofs.Common.{◌≡◌, ℕ, zero, suc, pos, ◌+◌, ◌-◌, ◌*◌, ◌^◌, ◌<◌, ◌≤◌, max, ◌+ℤ◌, ◌*ℤ◌, unsigned_abs, Bool, true, false, cond, List, [], ◌∷◌, ◌++◌, Option, Some, None, inl, inr, refl, sym, ap, subst, ◌∙◌, arith}
use Rattle.std.specs.Prelude.{unwrap_or, nat_le}
use Rattle.std.specs.Ordering.{is_eq}
use Rattle.std.specs.Str.{bytes_eq}
use Rattle.std.proofs.lemmas.Bool.{false≢true, cases_lt}
use Rattle.std.proofs.lemmas.Bool.Decides.{nat_tests}
use Rattle.std.proofs.lemmas.Cmp.{tied_itself}
use Rattle.std.proofs.lemmas.Int.{unsigned_abs-mul}
use Rattle.std.proofs.lemmas.Nat.{pow-add}
use Rattle.std.proofs.Math.Nat.{add-mul, mul-lt-mul_of_pos_right}
use Rattle.hl_num.specs.Decimal.{Decimal, units_of, mantissa_at, add_fits}
use Rattle.hl_num.proofs.DecimalLaws.{add_fits-from_sum}
use Rattle.hl_num.proofs.DecimalLemmas.{units_of-mantissa_at}
use Rattle.hl_num.proofs.RoundingLemmas.{pow_ten_positive}
use Rattle.book.proofs.Order.{is_equal}
use Rattle.prices.proofs.Texts.{same_text, equal_text, told, true≢false}
use Rattle.report_cells.specs.Taken.{Shared, Taken, share_in}
use Rattle.report_cells.specs.Bounds.{turnover_in, places_at, places_in, is_out}
use Rattle.report_cells.proofs.Choosing.{turnover-append, places-append}
use Rattle.report_values.specs.DayKeys.{day_cmp, day_total}
use Rattle.report_values.specs.Known.{kept_at}
use Rattle.report_values.specs.Totals.{absolute, no_total, IsTotal, HoldsTotal, AreTotals, Totals, is_full}
use Rattle.report_values.proofs.Keeping.{day_ties}

-- ---- one amount more

pow_more : (n m : ℕ) → 10 ^ n ≤ 10 ^ (n + m)
pow_more n zero = let is : n + 0 ≡ n = omega arith in let same = ap (λ k. 10 ^ k) is in omega (arith, same)
pow_more n (suc m) =
    let is : n + suc m ≡ (n + m) + 1 = omega arith in
    let ten : 10 ^ (n + suc m) ≡ 10 ^ (n + m) * 10 = ap (λ k. 10 ^ k) is ∙ pow-add 10 (n + m) 1 in
    omega (arith, ten, pow_more n m)

-- with more decimals the bound is no greater
bound_falls : (p q : ℕ) → p ≤ q → 2 ^ 127 * 10 ^ (36 - q) ≤ 2 ^ 127 * 10 ^ (36 - p)
bound_falls p q le =
    let is : (36 - q) + ((36 - p) - (36 - q)) ≡ 36 - p = omega (arith, le) in
    let more : 10 ^ (36 - q) ≤ 10 ^ (36 - p) = subst (λ k. 10 ^ (36 - q) ≤ 10 ^ k) is (pow_more (36 - q) ((36 - p) - (36 - q))) in
    omega (arith, more)

-- what is too large stays too large
pub full_still : (turnover places more other : ℕ) → 2 ^ 127 * 10 ^ (36 - places) ≤ turnover → 2 ^ 127 * 10 ^ (36 - max places other) ≤ turnover + more
full_still turnover places more other h =
    let falls = bound_falls places (max places other) (omega arith) in
    omega (arith, h, falls)

units_absolute : (d : Decimal) → units_of (absolute d) ≡ pos (unsigned_abs (units_of d))
units_absolute d = ap pos (sym (unsigned_abs-mul d.mantissa (pos (10 ^ (36 - d.places)))))

at_places : (d : Decimal) (q : ℕ) → d.places ≤ q → q ≤ 36 → unsigned_abs (mantissa_at d q) * 10 ^ (36 - q) ≡ unsigned_abs (units_of d)
at_places d q le few = sym (unsigned_abs-mul (mantissa_at d q) (pos (10 ^ (36 - q)))) ∙ ap unsigned_abs (units_of-mantissa_at d q le few)

-- where a sum can't be taken the absolute values reach the bound
past : (a b : Decimal) (q : ℕ) → a.places ≤ q → b.places ≤ q → add_fits a b ≡ false → 2 ^ 127 ≤ unsigned_abs (mantissa_at a q) + unsigned_abs (mantissa_at b q)
past a b q le le_too unfit = elim (cases_lt (unsigned_abs (mantissa_at a q) + unsigned_abs (mantissa_at b q)) (2 ^ 127)) [
  | inl less ↦ absurd (true≢false (sym (add_fits-from_sum a b q le le_too less) ∙ unfit))
  | inr reached ↦ reached
]

times_le : (a b k : ℕ) → a ≤ b → a * k ≤ b * k
times_le a b zero h = omega arith
times_le a b (suc k) h = omega (arith, h, times_le a b k h)

reached : (a b : Decimal) (q : ℕ) → a.places ≤ q → b.places ≤ q → q ≤ 36 → add_fits a b ≡ false → 2 ^ 127 * 10 ^ (36 - q) ≤ unsigned_abs (units_of a) + unsigned_abs (units_of b)
reached a b q le le_too few unfit =
    let grown = times_le (2 ^ 127) (unsigned_abs (mantissa_at a q) + unsigned_abs (mantissa_at b q)) (10 ^ (36 - q)) (past a b q le le_too unfit) in
    let both = add-mul (unsigned_abs (mantissa_at a q)) (unsigned_abs (mantissa_at b q)) (10 ^ (36 - q)) in
    omega (arith, grown, both, at_places a q le few, at_places b q le_too few)

left_most : (a b : ℕ) → a ≤ max a b
left_most a b = omega arith

right_most : (a b : ℕ) → b ≤ max a b
right_most a b = omega arith

both_few : (a b : ℕ) → a ≤ 36 → b ≤ 36 → max a b ≤ 36
both_few a b h k = omega (arith, h, k)

module _ (sum value : Decimal) (turnover places : ℕ) (h : IsTotal (Some sum) turnover places) where
  pub summed_ok : (total : Decimal) → units_of total ≡ units_of sum +ℤ units_of (absolute value) → total.places ≡ max sum.places value.places → unsigned_abs total.mantissa < 2 ^ 127
      → IsTotal (Some total) (turnover + unsigned_abs (units_of value)) (max places value.places)
  summed_ok total units most bound = (
    units ∙ (λ i. h.0 i +ℤ units_absolute value i),
    most ∙ ap (λ p. max p value.places) h.1,
    bound,
  )

  pub summed_err : sum.places ≤ 36 → value.places ≤ 36 → add_fits sum (absolute value) ≡ false
      → IsTotal None (turnover + unsigned_abs (units_of value)) (max places value.places)
  summed_err few few_too unfit =
      let over = reached sum (absolute value) (max sum.places value.places) (left_most sum.places value.places) (right_most sum.places value.places) (both_few sum.places value.places few few_too) unfit in
      let own : unsigned_abs (units_of sum) ≡ turnover = ap unsigned_abs h.0 in
      let more : unsigned_abs (units_of (absolute value)) ≡ unsigned_abs (units_of value) = ap unsigned_abs (units_absolute value) in
      let same : max sum.places value.places ≡ max places value.places = ap (λ p. max p value.places) h.1 in
      subst (λ p. 2 ^ 127 * 10 ^ (36 - p) ≤ turnover + unsigned_abs (units_of value)) same
      (subst (λ t. 2 ^ 127 * 10 ^ (36 - max sum.places value.places) ≤ t + unsigned_abs (units_of value)) own
      (subst (λ m. 2 ^ 127 * 10 ^ (36 - max sum.places value.places) ≤ unsigned_abs (units_of sum) + m) more over))

-- ---- the sum of a symbol

zero_small : 0 < 2 ^ 127
zero_small = omega arith

-- what is kept, or zero
pub total_more : (o : Option (Option Decimal)) (turnover places : ℕ) → HoldsTotal o turnover places → IsTotal (unwrap_or o no_total) turnover places
total_more None turnover places h = (ap pos (sym h.0), sym h.1, zero_small)
total_more (Some total) turnover places h = h

shift : (o : Option (Option Decimal)) (a b p r : ℕ) → HoldsTotal o a p → b ≡ a → r ≡ p → HoldsTotal o b r
shift o a b p r h same agree = subst (λ x. HoldsTotal o x r) (sym same) (subst (λ y. HoldsTotal o a y) (sym agree) h)

pub totals_none : AreTotals [] []
totals_none symbol = (refl, refl)

module _ (old new : Totals) (ts : List Taken) (t : Taken) (h : AreTotals old ts) where
  turnover_more : (q : List ℕ) → turnover_in q (ts ++ t ∷ []) ≡ turnover_in q ts + unsigned_abs (share_in q t.amount)
  turnover_more q = turnover-append q ts (t ∷ []) ∙ omega arith

  places_more : (q : List ℕ) → places_in q (ts ++ t ∷ []) ≡ max (places_in q ts) (places_at q t.amount)
  places_more q = places-append q ts (t ∷ []) ∙ omega arith

  -- nothing changes
  pub totals_same : t.amount ≡ None → AreTotals old (ts ++ t ∷ [])
  totals_same none q =
      shift (kept_at old 0 q) (turnover_in q ts) _ (places_in q ts) _ (h q)
      (turnover_more q ∙ ap (λ (a : Option Shared). turnover_in q ts + unsigned_abs (share_in q a)) none ∙ omega arith)
      (places_more q ∙ ap (λ (a : Option Shared). max (places_in q ts) (places_at q a)) none ∙ omega arith)

  module _ (share : Shared) (total : Option Decimal) (some : t.amount ≡ Some share) (is : IsTotal total (turnover_in share.0 ts + unsigned_abs (units_of share.1)) (max (places_in share.0 ts) share.1.places)) where
    turnover_with : (q : List ℕ) (b : Bool) → bytes_eq share.0 q ≡ b → turnover_in q (ts ++ t ∷ []) ≡ turnover_in q ts + unsigned_abs (cond b (units_of share.1) (pos 0))
    turnover_with q b e =
        turnover_more q ∙ ap (λ (a : Option Shared). turnover_in q ts + unsigned_abs (share_in q a)) some
        ∙ ap (λ (c : Bool). turnover_in q ts + unsigned_abs (cond c (units_of share.1) (pos 0))) e

    places_with : (q : List ℕ) (b : Bool) → bytes_eq share.0 q ≡ b → places_in q (ts ++ t ∷ []) ≡ max (places_in q ts) (cond b share.1.places 0)
    places_with q b e =
        places_more q ∙ ap (λ (a : Option Shared). max (places_in q ts) (places_at q a)) some
        ∙ ap (λ (c : Bool). max (places_in q ts) (cond c share.1.places 0)) e

    tied : (q : List ℕ) → share.0 ≡ q → is_eq (day_cmp (0, share.0) (0, q)) ≡ true
    tied q same = subst (λ (x : List ℕ). is_eq (day_cmp (0, share.0) (0, x)) ≡ true) same (ap is_eq (tied_itself day_total (0, share.0)))

    by_key : (q : List ℕ) (b : Bool) → is_eq (day_cmp (0, share.0) (0, q)) ≡ b → HoldsTotal (cond b (Some total) (kept_at old 0 q)) (turnover_in q (ts ++ t ∷ [])) (places_in q (ts ++ t ∷ []))
    by_key q true e =
        let same : share.0 ≡ q = ap (λ (k : ℕ × List ℕ). k.1) (day_ties (0, share.0) (0, q) (is_equal _ e)) in
        let equal : bytes_eq share.0 q ≡ true = equal_text share.0 q same in
        shift (Some total) (turnover_in q ts + unsigned_abs (units_of share.1)) _ (max (places_in q ts) share.1.places) _
        (subst (λ (x : List ℕ). IsTotal total (turnover_in x ts + unsigned_abs (units_of share.1)) (max (places_in x ts) share.1.places)) same is)
        (turnover_with q true equal) (places_with q true equal)
    by_key q false e =
        let differ : bytes_eq share.0 q ≡ false = elim (told (bytes_eq share.0 q)) [
          | inl same ↦ absurd (false≢true (sym e ∙ tied q (same_text share.0 q same)))
          | inr differ ↦ differ
        ] in
        shift (kept_at old 0 q) (turnover_in q ts) _ (places_in q ts) _ (h q)
        (turnover_with q false differ ∙ omega arith) (places_with q false differ ∙ omega arith)

    -- the sum of a symbol changes
    pub totals_more : ((q : List ℕ) → kept_at new 0 q ≡ cond (is_eq (day_cmp (0, share.0) (0, q))) (Some total) (kept_at old 0 q)) → AreTotals new (ts ++ t ∷ [])
    totals_more more q =
        subst (λ (o : Option (Option Decimal)). HoldsTotal o (turnover_in q (ts ++ t ∷ [])) (places_in q (ts ++ t ∷ []))) (sym (more q))
        (by_key q (is_eq (day_cmp (0, share.0) (0, q))) refl)

-- ---- what is too large

le_true : (a b : ℕ) → a ≤ b → nat_le a b ≡ true
le_true a b h = grind (arith, nat_tests, h)

le_false : (a b : ℕ) → b < a → nat_le a b ≡ false
le_false a b h = grind (arith, nat_tests, h)

-- a kept sum is too large where its symbol is out of range
pub full-is : (kept : Totals) (ts : List Taken) (q : List ℕ) → AreTotals kept ts → is_full (kept_at kept 0 q) ≡ is_out ts q
full-is kept ts q all = by (kept_at kept 0 q) (all q)
  where
    by : (o : Option (Option Decimal)) → HoldsTotal o (turnover_in q ts) (places_in q ts) → is_full o ≡ is_out ts q
    by None h =
        let some = pow_ten_positive (36 - places_in q ts) in
        sym (le_false (2 ^ 127 * 10 ^ (36 - places_in q ts)) (turnover_in q ts) (omega (arith, h.0, some)))
    by (Some None) h = sym (le_true (2 ^ 127 * 10 ^ (36 - places_in q ts)) (turnover_in q ts) h)
    by (Some (Some sum)) h =
        let size : turnover_in q ts ≡ unsigned_abs sum.mantissa * 10 ^ (36 - sum.places) = sym (ap unsigned_abs h.0) ∙ unsigned_abs-mul sum.mantissa (pos (10 ^ (36 - sum.places))) in
        let less = mul-lt-mul_of_pos_right h.2 (pow_ten_positive (36 - sum.places)) in
        let place : 10 ^ (36 - sum.places) ≡ 10 ^ (36 - places_in q ts) = ap (λ k. 10 ^ (36 - k)) h.1 in
        sym (le_false (2 ^ 127 * 10 ^ (36 - places_in q ts)) (turnover_in q ts) (omega (arith, size, less, place)))
