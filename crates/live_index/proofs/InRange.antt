-- Why sums of rows in a symbol are in range.
use Rattle.std.proofs.Common.{◌≡◌, ℕ, ℤ, pos, ◌+◌, ◌-◌, ◌*◌, ◌/◌, ◌%◌, ◌^◌, ◌<◌, ◌≤◌, ◌+ℤ◌, ◌*ℤ◌, max, unsigned_abs, Bool, true, false, nat_lt, ◌==◌, ◌&&◌, List, refl, sym, ap, ◌∙◌, lit<, arith}
use Rattle.std.proofs.lemmas.Int.{ints, unsigned_abs-mul}
use Rattle.std.proofs.lemmas.Bool.Decides.{nat_tests}
use Rattle.std.proofs.Math.Nat.{div-eq_of_lt, pow-le-pow_right, mul-le-mul_left, lt_of_mul-lt-mul_right}
use Rattle.std.specs.Str.{bytes_eq}
use Rattle.hl_num.specs.Decimal.{Decimal, units_of, mantissa_at, add_fits}
use Rattle.live_index.specs.declared.row.Row.{Row}
use Rattle.live_index.specs.Rows.{counts, node_sum, sum_before, places_of, turnover, TurnoverFits}
use Rattle.live_index.specs.Told.{IsSum}
use Rattle.live_index.proofs.Sums.{total-within}
use Rattle.live_index.proofs.Days.{before-none, even-before, odd-before}
use Rattle.hl_num.proofs.DecimalLemmas.{units_of-mantissa_at, units_of-sum}

-- a number in units of 10 ^ (36 - p) whose exact value is at most a bound
pub small : (x : ℤ) (p q bound : ℕ) → p ≤ q → unsigned_abs (x *ℤ pos (10 ^ (36 - p))) ≤ bound → bound < 2 ^ 127 * 10 ^ (36 - q) → unsigned_abs x < 2 ^ 127
small x p q bound within most fits =
    let powers : 10 ^ (36 - q) ≤ 10 ^ (36 - p) = pow-le-pow_right {n = 10} (lit< tt) (omega arith) in
    let larger : 2 ^ 127 * 10 ^ (36 - q) ≤ 2 ^ 127 * 10 ^ (36 - p) = mul-le-mul_left (2 ^ 127) powers in
    let product : unsigned_abs x * 10 ^ (36 - p) < 2 ^ 127 * 10 ^ (36 - p) = omega (arith, most, fits, larger, unsigned_abs-mul x (pos (10 ^ (36 - p)))) in
    lt_of_mul-lt-mul_right (10 ^ (36 - p)) product

all_three : (x y z m : ℕ) → x < m → y < m → z < m → (nat_lt x m && nat_lt y m && nat_lt z m) ≡ true
all_three x y z m h k l = grind (arith, nat_tests)

zero_units : pos 0 *ℤ pos (10 ^ 36) ≡ pos 0
zero_units = omega (arith, ints)

-- two numbers can be added where both and their sum are at most a bound on exact values
pub add_fits-within : (a b : Decimal) (q bound : ℕ) → a.places ≤ 36 → b.places ≤ 36 → a.places ≤ q → b.places ≤ q → unsigned_abs (units_of a) ≤ bound → unsigned_abs (units_of b) ≤ bound → unsigned_abs (units_of a +ℤ units_of b) ≤ bound → bound < 2 ^ 127 * 10 ^ (36 - q) → add_fits a b ≡ true
add_fits-within a b q bound few_a few_b of_a of_b most_a most_b most fits =
    let p = max a.places b.places in
    let within : p ≤ q = omega arith in
    all_three (unsigned_abs (mantissa_at a p)) (unsigned_abs (mantissa_at b p)) (unsigned_abs (mantissa_at a p +ℤ mantissa_at b p)) (2 ^ 127)
    (small (mantissa_at a p) p q bound within (rw (units_of-mantissa_at a p (omega arith) (omega arith)) most_a) fits)
    (small (mantissa_at b p) p q bound within (rw (units_of-mantissa_at b p (omega arith) (omega arith)) most_b) fits)
    (small (mantissa_at a p +ℤ mantissa_at b p) p q bound within (rw (units_of-sum a b p (omega arith) (omega arith) (omega arith)) most) fits)

pub left : (x y : Bool) → (x && y) ≡ true → x ≡ true
left true y h = refl
left false y h = h

-- a node's sum is at most the turnover
pub node-within : (rows : List Row) (account symbol : List ℕ) (below : Bool) (level k : ℕ) → unsigned_abs (node_sum rows account symbol below level k) ≤ turnover symbol rows
node-within rows account symbol below level k =
    total-within symbol (λ row. counts account symbol below row && (row.day.0 / 2 ^ level == k)) (λ row h. left (bytes_eq row.symbol symbol) _ (left (counts account symbol below row) _ h)) rows

-- and so is the sum before a day
pub before-within : (rows : List Row) (account symbol : List ℕ) (below : Bool) (end : ℕ) → unsigned_abs (sum_before rows account symbol below end) ≤ turnover symbol rows
before-within rows account symbol below end =
    total-within symbol (λ row. counts account symbol below row && nat_lt row.day.0 end) (λ row h. left (bytes_eq row.symbol symbol) _ (left (counts account symbol below row) _ h)) rows

-- the sum so far and the next node can be added
pub can-add : (rows : List Row) (account symbol : List ℕ) (below : Bool) (days level next : ℕ) (a b : Decimal) → TurnoverFits rows → next ≡ level + 1 → days / 2 ^ level % 2 ≡ 1 → IsSum rows symbol (sum_before rows account symbol below (days / 2 ^ next * 2 ^ next)) a → IsSum rows symbol (node_sum rows account symbol below level (days / 2 ^ level - 1)) b → a.places ≤ 36 → b.places ≤ 36 → add_fits a b ≡ true
can-add rows account symbol below days level next a b fits e h of_a of_b few_a few_b =
    let sum = ap (λ (z : ℤ). z +ℤ units_of b) of_a.value ∙ ap (λ (z : ℤ). sum_before rows account symbol below (days / 2 ^ next * 2 ^ next) +ℤ z) of_b.value ∙ odd-before rows account symbol below days level next e h in
    add_fits-within a b (places_of symbol rows) (turnover symbol rows) few_a few_b of_a.places of_b.places
    (rw of_a.value (before-within rows account symbol below (days / 2 ^ next * 2 ^ next)))
    (rw of_b.value (node-within rows account symbol below level (days / 2 ^ level - 1)))
    (rw sum (before-within rows account symbol below (days / 2 ^ level * 2 ^ level)))
    (fits symbol)

-- and make up the next sum
pub next-sum : (rows : List Row) (account symbol : List ℕ) (below : Bool) (days level next : ℕ) (a b r : Decimal) → next ≡ level + 1 → days / 2 ^ level % 2 ≡ 1 → IsSum rows symbol (sum_before rows account symbol below (days / 2 ^ next * 2 ^ next)) a → IsSum rows symbol (node_sum rows account symbol below level (days / 2 ^ level - 1)) b → units_of r ≡ units_of a +ℤ units_of b → r.places ≡ max a.places b.places → IsSum rows symbol (sum_before rows account symbol below (days / 2 ^ level * 2 ^ level)) r
next-sum rows account symbol below days level next a b r e h of_a of_b is places = record {
  value = is ∙ ap (λ (z : ℤ). z +ℤ units_of b) of_a.value ∙ ap (λ (z : ℤ). sum_before rows account symbol below (days / 2 ^ next * 2 ^ next) +ℤ z) of_b.value ∙ odd-before rows account symbol below days level next e h;
  places = omega (arith, of_a.places, of_b.places, places);
}

-- the sum where a digit isn't set
pub same-sum : (rows : List Row) (account symbol : List ℕ) (below : Bool) (days level next : ℕ) (a : Decimal) → next ≡ level + 1 → days / 2 ^ level % 2 ≡ 0 → IsSum rows symbol (sum_before rows account symbol below (days / 2 ^ next * 2 ^ next)) a → IsSum rows symbol (sum_before rows account symbol below (days / 2 ^ level * 2 ^ level)) a
same-sum rows account symbol below days level next a e h of_a = record {
  value = of_a.value ∙ even-before rows account symbol below days level next e h;
  places = of_a.places;
}

no_days : (end w : ℕ) → end < w → end / w * w ≡ 0
no_days end w h = ap (λ (n : ℕ). n * w) (div-eq_of_lt h) ∙ omega arith

-- nothing is summed before the first digit
pub first-sum : (rows : List Row) (account symbol : List ℕ) (below : Bool) (end w : ℕ) (a : Decimal) → end < w → a ≡ record { mantissa = pos 0; places = 0 } → IsSum rows symbol (sum_before rows account symbol below (end / w * w)) a
first-sum rows account symbol below end w a h is = record {
  value = ap units_of is ∙ zero_units ∙ sym (ap (λ (n : ℕ). sum_before rows account symbol below n) (no_days end w h) ∙ before-none rows account symbol below);
  places = rw is (omega arith);
}
