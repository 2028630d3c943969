-- What the cells tell of a node, exactly.
use Rattle.std.proofs.Common.{◌≡◌, ℕ, ℤ, pos, ◌+◌, ◌-◌, ◌*◌, ◌/◌, ◌^◌, ◌<◌, ◌≤◌, ◌+ℤ◌, ◌-ℤ◌, ◌*ℤ◌, ◌==◌, nat_lt, max, unsigned_abs, Bool, true, false, cond, ◌&&◌, ◌||◌, List, [], ◌∷◌, ◌++◌, filter, zero-mul, inl, inr, rules, neg_ℤ, refl, sym, ap, subst, ◌∙◌, arith}
use Rattle.std.specs.Str.{bytes_eq}
use Rattle.std.specs.List.{AllByRecursion}
use Rattle.std.specs.Int.{int_wrap, w128}
use Rattle.std.specs.Int.RustNames.{FitsSigned}
use Rattle.std.proofs.lemmas.Int.{ints, int_wrap-add_same, int_wrap-sub_right, int_wrap_fits}
use Rattle.std.proofs.lemmas.Bool.{false≢true}
use Rattle.std.proofs.lemmas.Bool.Decides.{nat_tests}
use Rattle.std.proofs.lemmas.Nat.{pow_pos}
use Rattle.book.specs.SumsBefore.{is_of}
use Rattle.hl_num.specs.Decimal.{Decimal, IsInBounds, units_of, add_fits}
use Rattle.hl_num.proofs.DecimalLemmas.{mul-add}
use Rattle.std.proofs.lemmas.Bool.{cases_lt}
use Rattle.live_index.specs.declared.row.Row.{Row}
use Rattle.live_index.specs.Rows.{counts, sum_by, total, node_sum, places_of, turnover, TurnoverFits}
use Rattle.live_index.specs.Runs.{Alike, before}
use Rattle.live_index.specs.Cells.{Key, Cell, counts_for, is_part, sums_of, runs_in, told, AreJoined}
use Rattle.live_index.specs.Kept.{mantissas_before, AreSums}
use Rattle.live_index.specs.Puts.{rows_put}
use Rattle.live_index.specs.Standing.{standing}
use Rattle.live_index.specs.Told.{IsSum}
use Rattle.live_index.proofs.Sums.{Splits, sum-split, sum-append, total-split, total-none, total-within}
use Rattle.live_index.proofs.StandingLaws.{standing-sum, mantissas-cancel, mantissas-zero}
use Rattle.live_index.proofs.InRange.{add_fits-within, left, small}
use Rattle.live_index.proofs.Days.{before-div}

-- ---- rows that are put in

pub rows_put-append : (more : List (List Row)) (rows : List Row) → rows_put (more ++ rows ∷ []) ≡ rows_put more ++ rows
rows_put-append [] rows = nil rows
  where
    nil : (rows : List Row) → rows ++ [] ≡ rows
    nil [] = refl
    nil (row ∷ rows) = ap (λ (t : List Row). row ∷ t) (nil rows)
rows_put-append (first ∷ more) rows =
    ap (λ (t : List Row). first ++ t) (rows_put-append more rows) ∙ assoc first (rows_put more) rows
  where
    assoc : (a b c : List Row) → a ++ (b ++ c) ≡ (a ++ b) ++ c
    assoc [] b c = refl
    assoc (x ∷ a) b c = ap (λ (t : List Row). x ∷ t) (assoc a b c)

few-append : (rows more : List Row) → AllByRecursion (λ (r : Row). r.value.places ≤ 36) rows → AllByRecursion (λ (r : Row). r.value.places ≤ 36) more → AllByRecursion (λ (r : Row). r.value.places ≤ 36) (rows ++ more)
few-append [] more h k = k
few-append (row ∷ rows) more h k = (h.0, few-append rows more h.1 k)

-- no rows
pub sums-none : AreSums [] []
sums-none = record {
  cells = record { ordered = tt; full = tt };
  sums = λ key places end. refl;
  few = tt;
}

-- the sums of two lists of rows
pub sums-both : (rows more : List Row) (first second both : List Cell) → AreSums rows first → AreSums more second → AreJoined first second both → AreSums (rows ++ more) both
sums-both rows more first second both h k joined = record {
  cells = joined.cells;
  sums = λ key places end.
      joined.sums key places end
      ∙ int_wrap-add_same w128 (told key first places end) (mantissas_before rows key places end) (told key second places end) (h.sums key places end)
      ∙ ap (int_wrap w128) (turn (mantissas_before rows key places end) (told key second places end))
      ∙ int_wrap-add_same w128 (told key second places end) (mantissas_before more key places end) (mantissas_before rows key places end) (k.sums key places end)
      ∙ ap (int_wrap w128) (turn (mantissas_before more key places end) (mantissas_before rows key places end))
      ∙ ap (int_wrap w128) (sym (sum-append (λ (r : Row). r.value.mantissa) (λ r. counts_for key r && is_part r places end) rows more));
  few = few-append rows more h.few k.few;
}
  where
    turn : (a b : ℤ) → a +ℤ b ≡ b +ℤ a
    turn a b = omega (arith, ints)

-- ---- the rows of a node

-- the rows of a node with a number of decimals
abbrev pub part : List ℕ → List ℕ → Bool → ℕ → ℕ → ℕ → Row → Bool
part account symbol below level at places row = counts account symbol below row && (row.day.0 / 2 ^ level == at) && (row.value.places == places)

-- and those with fewer decimals
abbrev pub parts : List ℕ → List ℕ → Bool → ℕ → ℕ → ℕ → Row → Bool
parts account symbol below level at places row = counts account symbol below row && (row.day.0 / 2 ^ level == at) && nat_lt row.value.places places

module _ (account symbol : List ℕ) (below : Bool) (level at : ℕ) where
  abbrev key : Key
  key = record { account = account; symbol = symbol; below = below }

  split_days : (x y : Bool) (q : ℕ) → Splits (x && (y && nat_lt q at)) ((x && (q == at)) && y) (x && (y && nat_lt q (at + 1)))
  split_days true true q = record { one = true_one q; apart = true_apart q }
    where
      true_one : (q : ℕ) → nat_lt q (at + 1) ≡ (nat_lt q at || ((q == at) && true))
      true_one q = grind (arith, nat_tests)

      true_apart : (q : ℕ) → (nat_lt q at && ((q == at) && true)) ≡ false
      true_apart q = grind (arith, nat_tests)
  split_days true false q = record { one = none (q == at); apart = refl }
    where
      none : (b : Bool) → false ≡ (b && false)
      none true = refl
      none false = refl
  split_days false y q = record { one = refl; apart = refl }

  -- the mantissas of a node are those before its end less those before its start
  days-between : (rows : List Row) (places : ℕ) → mantissas_before rows key places ((at + 1) * 2 ^ level) ≡ mantissas_before rows key places (at * 2 ^ level) +ℤ sum_by (λ (r : Row). r.value.mantissa) (filter (part account symbol below level at places) rows)
  days-between rows places =
      let w : 0 < 2 ^ level = pow_pos level in
      sum-split (λ (r : Row). r.value.mantissa) (λ row. counts_for key row && is_part row places (at * 2 ^ level)) (part account symbol below level at places) (λ row. counts_for key row && is_part row places ((at + 1) * 2 ^ level))
      (λ row. rw (before-div row.day.0 at (2 ^ level) w, before-div row.day.0 (at + 1) (2 ^ level) w) (split_days (counts account symbol below row) (row.value.places == places) (row.day.0 / 2 ^ level)))
      rows

  split_places : (x : Bool) (places p : ℕ) → Splits (x && nat_lt p places) (x && (p == places)) (x && nat_lt p (places + 1))
  split_places true places p = record { one = grind (arith, nat_tests); apart = grind (arith, nat_tests) }
  split_places false places p = record { one = refl; apart = refl }

  -- the rows of a node with fewer than p + 1 decimals
  pub one-part-more : (rows : List Row) (places : ℕ) → total (filter (parts account symbol below level at (places + 1)) rows) ≡ total (filter (parts account symbol below level at places) rows) +ℤ total (filter (part account symbol below level at places) rows)
  one-part-more rows places =
      total-split (parts account symbol below level at places) (part account symbol below level at places) (parts account symbol below level at (places + 1))
      (λ row. split_places (counts account symbol below row && (row.day.0 / 2 ^ level == at)) places row.value.places) rows

  no_parts : (x : Bool) (p : ℕ) → (x && nat_lt p 0) ≡ false
  no_parts true p = grind (arith, nat_tests)
  no_parts false p = refl

  pub no-part : (rows : List Row) → total (filter (parts account symbol below level at 0) rows) ≡ pos 0
  no-part rows = total-none (parts account symbol below level at 0) (λ row. no_parts (counts account symbol below row && (row.day.0 / 2 ^ level == at)) row.value.places) rows

  all_step : (row : Row) (one two : List Row) (x : Bool) → row.value.places ≤ 36 → total one ≡ total two → total (cond (x && nat_lt row.value.places 37) (row ∷ one) one) ≡ total (cond x (row ∷ two) two)
  all_step row one two x h e = ap (λ (b : Bool). total (cond b (row ∷ one) one)) (few x row.value.places h) ∙ step x
    where
      few : (x : Bool) (p : ℕ) → p ≤ 36 → (x && nat_lt p 37) ≡ x
      few true p h = grind (arith, nat_tests)
      few false p h = refl

      step : (x : Bool) → total (cond x (row ∷ one) one) ≡ total (cond x (row ∷ two) two)
      step true = ap (λ (z : ℤ). units_of row.value +ℤ z) e
      step false = e

  -- no row has more than 36 decimals
  pub all-parts : (rows : List Row) → AllByRecursion (λ (r : Row). r.value.places ≤ 36) rows → total (filter (parts account symbol below level at 37) rows) ≡ node_sum rows account symbol below level at
  all-parts [] h = refl
  all-parts (row ∷ rows) h =
      all_step row (filter (parts account symbol below level at 37) rows) (filter (λ r. counts account symbol below r && (r.day.0 / 2 ^ level == at)) rows) (counts account symbol below row && (row.day.0 / 2 ^ level == at)) h.0 (all-parts rows h.1)

  -- sums of a node's rows are at most the turnover
  pub part-within : (rows : List Row) (places : ℕ) → unsigned_abs (total (filter (part account symbol below level at places) rows)) ≤ turnover symbol rows
  part-within rows places =
      total-within symbol (part account symbol below level at places) (λ row h. left (bytes_eq row.symbol symbol) _ (left (counts account symbol below row) _ (left (counts account symbol below row && (row.day.0 / 2 ^ level == at)) _ h))) rows

  pub parts-within : (rows : List Row) (places : ℕ) → unsigned_abs (total (filter (parts account symbol below level at places) rows)) ≤ turnover symbol rows
  parts-within rows places =
      total-within symbol (parts account symbol below level at places) (λ row h. left (bytes_eq row.symbol symbol) _ (left (counts account symbol below row) _ (left (counts account symbol below row && (row.day.0 / 2 ^ level == at)) _ h))) rows

  -- the mantissas of a part
  abbrev pub mantissas : List Row → ℕ → ℤ
  mantissas rows places = sum_by (λ (r : Row). r.value.mantissa) (filter (part account symbol below level at places) rows)

  scaled_step : (row : Row) (rest : List Row) (x : Bool) (places : ℕ) → (x ≡ true → row.value.places ≡ places) → total rest ≡ sum_by (λ (r : Row). r.value.mantissa) rest *ℤ pos (10 ^ (36 - places)) → total (cond x (row ∷ rest) rest) ≡ sum_by (λ (r : Row). r.value.mantissa) (cond x (row ∷ rest) rest) *ℤ pos (10 ^ (36 - places))
  scaled_step row rest true places h e =
      ap (λ (n : ℕ). row.value.mantissa *ℤ pos (10 ^ (36 - n)) +ℤ total rest) (h refl)
      ∙ ap (λ (z : ℤ). row.value.mantissa *ℤ pos (10 ^ (36 - places)) +ℤ z) e
      ∙ sym (mul-add row.value.mantissa (sum_by (λ (r : Row). r.value.mantissa) rest) (10 ^ (36 - places)))
  scaled_step row rest false places h e = e

  eq-of : (x : Bool) (n k : ℕ) → (x && (n == k)) ≡ true → n ≡ k
  eq-of true n k h = grind (arith, nat_tests)
  eq-of false n k h = absurd (false≢true h)

  -- a part's exact sum is that of its mantissas, scaled
  pub part-scaled : (rows : List Row) (places : ℕ) → total (filter (part account symbol below level at places) rows) ≡ mantissas rows places *ℤ pos (10 ^ (36 - places))
  part-scaled [] places = zero_scaled (10 ^ (36 - places))
    where
      zero_scaled : (n : ℕ) → pos 0 ≡ pos 0 *ℤ pos n
      zero_scaled n = sym (ap pos (zero-mul n))
  part-scaled (row ∷ rows) places =
      scaled_step row (filter (part account symbol below level at places) rows) (part account symbol below level at places row) places (eq-of (counts account symbol below row && (row.day.0 / 2 ^ level == at)) row.value.places places) (part-scaled rows places)

  none_step : (row : Row) (rest : List Row) (x y : Bool) (p places most : ℕ) → x ≡ true → max (cond x p 0) most < places → p ≡ places → ⊥
  none_step row rest true y p places most e h k = absurd (omega (arith, h, k))
  none_step row rest false y p places most e h k = absurd (false≢true e)

  -- no row of a symbol has more decimals than the greatest number
  pub none-beyond : (rows : List Row) (places : ℕ) → places_of symbol rows < places → mantissas rows places ≡ pos 0
  none-beyond [] places h = refl
  none-beyond (row ∷ rows) places h =
      let rest = none-beyond rows places (omega (arith, h)) in
      elim (part account symbol below level at places row) as (λ b. part account symbol below level at places row ≡ b → sum_by (λ (r : Row). r.value.mantissa) (cond b (row ∷ filter (part account symbol below level at places) rows) (filter (part account symbol below level at places) rows)) ≡ pos 0) [
        | true ↦ λ e. absurd (none_step row [] (bytes_eq row.symbol symbol) true row.value.places places (places_of symbol rows) (left (bytes_eq row.symbol symbol) _ (left (counts account symbol below row) _ (left (counts account symbol below row && (row.day.0 / 2 ^ level == at)) _ e))) h (eq-of (counts account symbol below row && (row.day.0 / 2 ^ level == at)) row.value.places places e))
        | false ↦ λ e. rest
      ] refl

  -- the mantissas of a part of the rows that stand stay below 2^127
  pub mantissas-bound : (told : List Row) (places : ℕ) → TurnoverFits told → unsigned_abs (mantissas told places) < 2 ^ 127
  mantissas-bound told places fits =
      elim (cases_lt (places_of symbol told) places) [
        | inl beyond ↦ rw (none-beyond told places beyond) (positive tt)
        | inr within ↦
            small (mantissas told places) places (places_of symbol told) (turnover symbol told) within
            (subst (λ (z : ℤ). unsigned_abs z ≤ turnover symbol told) (part-scaled told places) (part-within told places))
            (fits symbol)
      ]
    where
      positive : Unit {0} → 0 < 2 ^ 127
      positive u = pow_pos 127

  fits-signed : (z : ℤ) → unsigned_abs z < 2 ^ 127 → FitsSigned w128 z
  fits-signed z h = search (rules, h)

  wrapped : (x y a b n : ℤ) → Alike x a → Alike y b → a ≡ b +ℤ n → int_wrap w128 (x -ℤ y) ≡ int_wrap w128 n
  wrapped x y a b n of_x of_y e =
      sym (int_wrap-sub_right w128 x y)
      ∙ ap (λ (z : ℤ). int_wrap w128 (x -ℤ z)) of_y
      ∙ int_wrap-sub_right w128 x b
      ∙ ap (λ (z : ℤ). int_wrap w128 z) (minus x b)
      ∙ int_wrap-add_same w128 x a (neg_ℤ b) of_x
      ∙ ap (λ (z : ℤ). int_wrap w128 z) (left_over a b n e)
    where
      minus : (x b : ℤ) → x -ℤ b ≡ x +ℤ neg_ℤ b
      minus x b = omega (arith, ints)

      left_over : (a b n : ℤ) → a ≡ b +ℤ n → a +ℤ neg_ℤ b ≡ n
      left_over a b n e = omega (arith, ints, e)

  -- what the cells tell of a part is the sum of its mantissas
  pub part-is : (rows : List Row) (cells : List Cell) (places : ℕ) → AreSums rows cells → TurnoverFits (standing rows) → int_wrap w128 (before (runs_in (sums_of key cells) places) ((at + 1) * 2 ^ level) -ℤ before (runs_in (sums_of key cells) places) (at * 2 ^ level)) ≡ mantissas (standing rows) places
  part-is rows cells places sums fits =
      wrapped (before (runs_in (sums_of key cells) places) ((at + 1) * 2 ^ level)) (before (runs_in (sums_of key cells) places) (at * 2 ^ level)) (mantissas_before rows key places ((at + 1) * 2 ^ level)) (mantissas_before rows key places (at * 2 ^ level)) (mantissas rows places) (sums.sums key places ((at + 1) * 2 ^ level)) (sums.sums key places (at * 2 ^ level)) (days-between rows places)
      ∙ ap (λ (z : ℤ). int_wrap w128 z) (sym (standing-sum (λ (r : Row). r.value.mantissa) mantissas-cancel mantissas-zero (λ own its day p. bytes_eq its symbol && is_of account below own && (day / 2 ^ level == at) && (p == places)) rows))
      ∙ int_wrap_fits w128 (mantissas (standing rows) places) (fits-signed (mantissas (standing rows) places) (mantissas-bound (standing rows) places fits))

  -- a number with decimals that isn't zero has no more than the greatest number of decimals
  pub within-places : (told : List Row) (places : ℕ) (x : ℤ) → x ≡ mantissas told places → (x ≡ pos 0 → ⊥) → places ≤ places_of symbol told
  within-places told places x is nonzero =
      elim (cases_lt (places_of symbol told) places) [
        | inl beyond ↦ absurd (nonzero (is ∙ none-beyond told places beyond))
        | inr within ↦ within
      ]

  -- the exact value of a part
  pub part-units : (told : List Row) (places : ℕ) (x : ℤ) → x ≡ mantissas told places → units_of (record { mantissa = x; places = places }) ≡ total (filter (part account symbol below level at places) told)
  part-units told places x is = ap (λ (z : ℤ). z *ℤ pos (10 ^ (36 - places))) is ∙ sym (part-scaled told places)

  pub part-bounds : (told : List Row) (places : ℕ) (x : ℤ) → TurnoverFits told → x ≡ mantissas told places → places < 37 → IsInBounds x places
  part-bounds told places x fits is few = record {
    mantissa_bound = subst (λ (z : ℤ). unsigned_abs z < 2 ^ 127) (sym is) (mantissas-bound told places fits);
    places_bound = omega (arith, few);
  }

  -- the sum so far and a part can be added
  pub can-add-part : (told : List Row) (places : ℕ) (x : ℤ) (sum : Decimal) → TurnoverFits told → x ≡ mantissas told places → (x ≡ pos 0 → ⊥) → IsSum told symbol (total (filter (parts account symbol below level at places) told)) sum → sum.places ≤ 36 → places ≤ 36 → add_fits sum (record { mantissa = x; places = places }) ≡ true
  can-add-part told places x sum fits is nonzero so_far few_sum few =
      let of_part = part-units told places x is in
      add_fits-within sum (record { mantissa = x; places = places }) (places_of symbol told) (turnover symbol told) few_sum few so_far.places (within-places told places x is nonzero)
      (subst (λ (z : ℤ). unsigned_abs z ≤ turnover symbol told) (sym so_far.value) (parts-within told places))
      (subst (λ (z : ℤ). unsigned_abs z ≤ turnover symbol told) (sym of_part) (part-within told places))
      (subst (λ (z : ℤ). unsigned_abs z ≤ turnover symbol told) (sym (λ i. so_far.value i +ℤ of_part i)) (subst (λ (z : ℤ). unsigned_abs z ≤ turnover symbol told) (one-part-more told places) (parts-within told (places + 1))))
      (fits symbol)

  -- the sum with a part more
  pub part-added : (told : List Row) (places : ℕ) (x : ℤ) (sum r : Decimal) → x ≡ mantissas told places → (x ≡ pos 0 → ⊥) → IsSum told symbol (total (filter (parts account symbol below level at places) told)) sum → units_of r ≡ units_of sum +ℤ units_of (record { mantissa = x; places = places }) → r.places ≡ max sum.places places → IsSum told symbol (total (filter (parts account symbol below level at (places + 1)) told)) r
  part-added told places x sum r is nonzero so_far value most = record {
    value = value ∙ (λ i. so_far.value i +ℤ part-units told places x is i) ∙ sym (one-part-more told places);
    places = omega (arith, most, so_far.places, within-places told places x is nonzero);
  }

  -- a part whose sum is zero
  pub part-skipped : (told : List Row) (places : ℕ) (x : ℤ) (sum : Decimal) → x ≡ mantissas told places → x ≡ pos 0 → IsSum told symbol (total (filter (parts account symbol below level at places) told)) sum → IsSum told symbol (total (filter (parts account symbol below level at (places + 1)) told)) sum
  part-skipped told places x sum is nought so_far =
      let nothing : total (filter (part account symbol below level at places) told) ≡ pos 0 = part-scaled told places ∙ ap (λ (z : ℤ). z *ℤ pos (10 ^ (36 - places))) (sym is ∙ nought) ∙ ap pos (zero-mul (10 ^ (36 - places))) in
      record {
        value = so_far.value ∙ plus-zero _ _ nothing ∙ sym (one-part-more told places);
        places = so_far.places;
      }
    where
      plus-zero : (a b : ℤ) → b ≡ pos 0 → a ≡ a +ℤ b
      plus-zero a b h = omega (arith, ints, h)
