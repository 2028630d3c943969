-- Where all that postings move fits, their amounts are in range.
use Rattle.std.proofs.Common.{◌≡◌, ℕ, ℤ, pos, ◌+◌, ◌-◌, ◌*◌, ◌^◌, ◌<◌, ◌≤◌, unsigned_abs, Bool, true, false, cond, List, [], ◌∷◌, ◌++◌, map, filter, fold, Option, Some, None, refl, sym, ap, subst, ◌∙◌, arith, lit<}
use Rattle.std.specs.Str.{bytes_eq}
use Rattle.std.proofs.Math.Nat.{pow-le-pow_right, mul-le-mul_left}
use Rattle.std.proofs.lemmas.Bool.Decides.{Decides-ltb}
use Rattle.std.proofs.lemmas.Int.{unsigned_abs-mul}
use Rattle.hl_num.specs.Decimal.{Decimal, mantissa_at, units_of}
use Rattle.hl_num.proofs.DecimalLemmas.{units_of-mantissa_at}
use Rattle.hl_num.proofs.RoundingLemmas.{pow_ten_positive}
use Rattle.book.specs.Bounds.{TurnoverFits, places_in, places_of, turnover}
use Rattle.book.specs.Mixed.{plus}
use Rattle.book.specs.Sums.{share}
use Rattle.book.specs.declared.amount.Amount.{Amount}
use Rattle.book.specs.declared.transaction.Posting.{Posting}
use Rattle.entry_balance.specs.Entry.{from_amount, moved, moved_by}
use Rattle.entry_balance.specs.Tally.{no_sum, numbers_of, turnover_fits}
use Rattle.entry_balance.specs.Values.{Value, absolute, cost_values, value_of}
use Rattle.entry_balance.proofs.Turnover.{AllAtMost, at_most-left, at_most-right, exact-abs, magnitude, magnitude-append, numbers-append, places_within, sum_places-all, total_within}
use Rattle.kept_turnover.specs.Moved.{AreFew}
use Rattle.kept_turnover.proofs.Booking.{moved_both}
use Rattle.kept_turnover.proofs.Units.{few_numbers}

-- what is turned over is no more than the magnitude, and has no more decimals
record IsTurned (q turned places counted : ℕ) : Type 0 where
  less : turned ≤ counted * 10 ^ (36 - q)
  few : places ≤ q

module _ (s : List ℕ) (q : ℕ) (most : q ≤ 36) where
  abbrev chosen : Value → List Value → Bool → List Decimal
  chosen v rest b = map (λ (v : Value). v.1) (cond b (v ∷ rest) rest)

  amount_turned : (a : Amount) (rest : List Value) (b : Bool) → AllAtMost q (chosen (value_of a) rest b)
      → IsTurned q (unsigned_abs (cond b (units_of a.value) (pos 0))) (cond b a.value.places 0) (magnitude q (chosen (value_of a) rest b))
  amount_turned a rest true h =
      let few : a.value.places ≤ q = h.0 in
      let units : unsigned_abs (units_of a.value) ≡ unsigned_abs (mantissa_at a.value q) * 10 ^ (36 - q) =
      ap unsigned_abs (sym (units_of-mantissa_at a.value q few most)) ∙ unsigned_abs-mul (mantissa_at a.value q) (pos (10 ^ (36 - q))) in
      let more : unsigned_abs (mantissa_at a.value q) ≤ unsigned_abs (mantissa_at a.value q) + magnitude q (map (λ (v : Value). v.1) rest) = omega arith in
      let scaled = mul-le-mul_left (10 ^ (36 - q)) more in
      record { less = omega (arith, units, scaled); few = few }
  amount_turned a rest false h = record { less = omega arith; few = omega arith }

  posting_turned : (p : Posting) (amount : Option Amount) → AllAtMost q (numbers_of s (from_amount (λ a. value_of a ∷ cost_values a p.cost) amount))
      → IsTurned q (unsigned_abs (share s amount)) (places_in s amount) (magnitude q (numbers_of s (from_amount (λ a. value_of a ∷ cost_values a p.cost) amount)))
  posting_turned p None h = record { less = omega arith; few = omega arith }
  posting_turned p (Some a) h = amount_turned a (filter (λ (v : Value). bytes_eq v.0 s) (cost_values a p.cost)) (bytes_eq a.symbol s) h

  all_turned : (ps : List Posting) → AllAtMost q (numbers_of s (moved ps)) → IsTurned q (turnover s ps) (places_of s ps) (magnitude q (numbers_of s (moved ps)))
  all_turned [] h = record { less = omega arith; few = omega arith }
  all_turned (p ∷ ps) h =
      let both : numbers_of s (moved (p ∷ ps)) ≡ numbers_of s (moved_by p) ++ numbers_of s (moved ps) = numbers-append s (moved_by p) (moved ps) in
      let split = subst (AllAtMost q) both h in
      let first = posting_turned p p.amount (at_most-left q (numbers_of s (moved_by p)) (numbers_of s (moved ps)) split) in
      let rest = all_turned ps (at_most-right q (numbers_of s (moved_by p)) (numbers_of s (moved ps)) split) in
      let sum : magnitude q (numbers_of s (moved (p ∷ ps))) ≡ magnitude q (numbers_of s (moved_by p)) + magnitude q (numbers_of s (moved ps)) =
      ap (magnitude q) both ∙ magnitude-append q (numbers_of s (moved_by p)) (numbers_of s (moved ps)) in
      let scaled = ap (λ (k : ℕ). k * 10 ^ (36 - q)) sum in
      let one = first.less in
      let two = rest.less in
      let few_one = first.few in
      let few_two = rest.few in
      record { less = omega (arith, one, two, scaled); few = omega (arith, few_one, few_two) }

bounded : (t m k l b : ℕ) → t ≤ m * k → m < b → 0 < k → k ≤ l → t < b * l
bounded t m k l b h small some more =
    let one = mul-le-mul_left k small in
    let two = mul-le-mul_left b more in
    omega (arith, h, one, two, some)

pub ranged : (ps : List Posting) → AreFew (moved ps) → turnover_fits (moved ps) ≡ true → TurnoverFits ps
ranged ps few fits s =
    let ds = numbers_of s (moved ps) in
    let q = (fold plus no_sum ds).places in
    let most : q ≤ 36 = places_within no_sum 36 ds (omega arith) (few_numbers s (moved ps) few) in
    let small : unsigned_abs (fold plus no_sum (map absolute ds)).mantissa < 2 ^ 127 = (Decides-ltb _ _).0 (total_within s (moved ps) fits) in
    let exact : unsigned_abs (fold plus no_sum (map absolute ds)).mantissa ≡ magnitude q ds = ap unsigned_abs (exact-abs ds) in
    let counted : magnitude q ds < 2 ^ 127 = omega (arith, small, exact) in
    let turned = all_turned s q most ps (sum_places-all no_sum ds) in
    let few_places = turned.few in
    let powers : 10 ^ (36 - q) ≤ 10 ^ (36 - places_of s ps) = pow-le-pow_right {n = 10} (lit< tt) (omega (arith, few_places)) in
    bounded (turnover s ps) (magnitude q ds) (10 ^ (36 - q)) (10 ^ (36 - places_of s ps)) (2 ^ 127) turned.less counted (pow_ten_positive (36 - q)) powers
