-- Sums over the days of a span are differences of sums up to a day.
use Rattle.std.proofs.Common.{◌≡◌, ℕ, ℤ, pos, negsuc, zero, suc, ◌*◌, ◌^◌, ◌-◌, ◌≤◌, max, ◌+ℤ◌, ◌*ℤ◌, neg_ℤ, unsigned_abs, Bool, true, false, ◌&&◌, nat_le, nat_lt, List, refl, sym, ap, ◌∙◌, arith}
use Rattle.std.specs.Str.{bytes_eq}
use Rattle.std.proofs.lemmas.Int.{ints}
use Rattle.std.proofs.lemmas.Bool.Decides.{nat_tests}
use Rattle.hl_num.specs.Decimal.{Decimal, units_of, negated, add_fits}
use Rattle.hl_num.proofs.DecimalLemmas.{neg-mul}
use Rattle.hl_time.specs.declared.spans.Span.{Span}
use Rattle.live_index.specs.declared.row.Row.{Row}
use Rattle.live_index.specs.Rows.{counts, sum_before, places_of, turnover, TurnoverFits}
use Rattle.live_index.specs.Told.{IsSum}
use Rattle.live_index.proofs.InRange.{add_fits-within, before-within, left}
use Rattle.live_index.proofs.Sums.{Splits, total-split, total-none, total-within}
use Rattle.index_cells.specs.Over.{is_over, sum_over}

twice : (n : ℕ) → neg_ℤ (neg_ℤ (pos n)) ≡ pos n
twice zero = refl
twice (suc n) = refl

turned : (m : ℤ) (n : ℕ) → neg_ℤ m *ℤ pos n ≡ neg_ℤ (m *ℤ pos n)
turned (pos a) n = neg-mul a n
turned (negsuc a) n = sym (twice (suc a * n))

-- the exact value of a number with the other sign
pub units_negated : (d : Decimal) → units_of (negated d) ≡ neg_ℤ (units_of d)
units_negated d = turned d.mantissa (10 ^ (36 - d.places))

none : (m : Bool) (from end day : ℕ) → end ≤ from → (m && (nat_le from day && nat_lt day end)) ≡ false
none false from end day h = refl
none true from end day h = grind (arith, nat_tests, h)

parts : (m : Bool) (from end day : ℕ) → from ≤ end → Splits (m && nat_lt day from) (m && (nat_le from day && nat_lt day end)) (m && nat_lt day end)
parts false from end day h = record { one = refl; apart = refl }
parts true from end day h = record { one = grind (arith, nat_tests, h); apart = grind (arith, nat_tests, h) }

module _ (rows : List Row) (account symbol : List ℕ) (days : Span) where
  pub over_none : days.end ≤ days.from → sum_over rows account symbol days ≡ pos 0
  over_none h = total-none (is_over account symbol days) (λ row. none (counts account symbol false row) days.from days.end row.day.0 h) rows

  over_split : days.from ≤ days.end → sum_before rows account symbol false days.end ≡ sum_before rows account symbol false days.from +ℤ sum_over rows account symbol days
  over_split h =
      total-split (λ row. counts account symbol false row && nat_lt row.day.0 days.from) (is_over account symbol days) (λ row. counts account symbol false row && nat_lt row.day.0 days.end)
      (λ row. parts (counts account symbol false row) days.from days.end row.day.0 h) rows

  -- it is at most the turnover
  pub over-within : unsigned_abs (sum_over rows account symbol days) ≤ turnover symbol rows
  over-within = total-within symbol (is_over account symbol days) (λ row h. left (bytes_eq row.symbol symbol) _ (left (counts account symbol false row) _ h)) rows

  module _ (whole part : Decimal) (ordered : days.from ≤ days.end) (of_whole : IsSum rows symbol (sum_before rows account symbol false days.end) whole) (of_part : IsSum rows symbol (sum_before rows account symbol false days.from) part) where
    away : (x y z : ℤ) → x ≡ y +ℤ z → x +ℤ neg_ℤ y ≡ z
    away x y z h = omega (arith, ints, h)

    differs : units_of whole +ℤ units_of (negated part) ≡ sum_over rows account symbol days
    differs =
        (λ i. of_whole.value i +ℤ (units_negated part ∙ ap neg_ℤ of_part.value) i)
        ∙ away (sum_before rows account symbol false days.end) (sum_before rows account symbol false days.from) (sum_over rows account symbol days) (over_split ordered)

    opposite : (x : ℤ) → unsigned_abs (neg_ℤ x) ≡ unsigned_abs x
    opposite x = omega (arith, ints)

    -- one can be taken from the other
    pub can_take : TurnoverFits rows → whole.places ≤ 36 → part.places ≤ 36 → add_fits whole (negated part) ≡ true
    can_take fits few few_too =
        let most : unsigned_abs (units_of whole) ≤ turnover symbol rows = rw of_whole.value (before-within rows account symbol false days.end) in
        let most_too : unsigned_abs (units_of part) ≤ turnover symbol rows = rw of_part.value (before-within rows account symbol false days.from) in
        let turned_too : unsigned_abs (units_of (negated part)) ≤ turnover symbol rows = omega (arith, most_too, ap unsigned_abs (units_negated part), opposite (units_of part)) in
        let both : unsigned_abs (units_of whole +ℤ units_of (negated part)) ≤ turnover symbol rows = rw differs over-within in
        add_fits-within whole (negated part) (places_of symbol rows) (turnover symbol rows) few few_too of_whole.places of_part.places most turned_too both (fits symbol)

    -- what is left
    pub is_taken : (result : Decimal) → units_of result ≡ units_of whole +ℤ units_of (negated part) → result.places ≡ max whole.places part.places → IsSum rows symbol (sum_over rows account symbol days) result
    is_taken result value places = record {
      value = value ∙ differs;
      places = omega (arith, places, of_whole.places, of_part.places);
    }

-- nothing over no days
pub is_none : (rows : List Row) (account symbol : List ℕ) (days : Span) (zero_sum : Decimal) → days.end ≤ days.from → zero_sum ≡ record { mantissa = pos 0; places = 0 } → IsSum rows symbol (sum_over rows account symbol days) zero_sum
is_none rows account symbol days zero_sum h is = record {
  value = ap units_of is ∙ no_units ∙ sym (over_none rows account symbol days h);
  places = omega (arith, ap (λ (d : Decimal). d.places) is);
}
  where
    no_units : units_of (record { mantissa = pos 0; places = 0 }) ≡ pos 0
    no_units = refl
