-- Small rows keep the bound on turnovers.
use Rattle.std.proofs.Common.{◌≡◌, ℕ, pos, ◌+◌, ◌-◌, ◌*◌, ◌^◌, ◌<◌, ◌≤◌, max, unsigned_abs, Bool, true, false, cond, List, [], ◌∷◌, ◌++◌, length, sym, subst, lit<, arith}
use Rattle.std.specs.Str.{bytes_eq}
use Rattle.std.proofs.lemmas.Int.{unsigned_abs-mul}
use Rattle.std.proofs.Math.Nat.{pow-le-pow_right, mul-le-mul_left, mul-le-mul_right, mul-le-mul}
use Rattle.hl_num.specs.Decimal.{units_of}
use Rattle.live_index.specs.declared.row.Row.{Row}
use Rattle.live_index.specs.Rows.{turnover, places_of, TurnoverFits}
use Rattle.live_index.specs.Small.{IsSmall, AllSmall, AreSmall}
use Rattle.live_index.specs.Standing.{are_opposite, is_zero, with_row, with_rows, standing}

-- what one row adds to a turnover, and its number of decimals
abbrev moved : List ℕ → Row → ℕ
moved symbol row = cond (bytes_eq row.symbol symbol) (unsigned_abs (units_of row.value)) 0

abbrev shown : List ℕ → Row → ℕ
shown symbol row = cond (bytes_eq row.symbol symbol) row.value.places 0

record IsBounded (new old row new_places old_places row_places : ℕ) : Type 0 where
  turnover : new ≤ old + row
  places : new_places ≤ max old_places row_places

-- what stands after one more row has at most its turnover more
with_row-bounded : (symbol : List ℕ) (rows : List Row) (row : Row) → IsBounded (turnover symbol (with_row rows row)) (turnover symbol rows) (moved symbol row) (places_of symbol (with_row rows row)) (places_of symbol rows) (shown symbol row)
with_row-bounded symbol [] row = by (is_zero row)
  where
    by : (b : Bool) → IsBounded (turnover symbol (cond b [] (row ∷ []))) 0 (moved symbol row) (places_of symbol (cond b [] (row ∷ []))) 0 (shown symbol row)
    by true = record { turnover = omega arith; places = omega arith }
    by false = record { turnover = omega arith; places = omega arith }
with_row-bounded symbol (other ∷ rows) row = by (with_row-bounded symbol rows row) (are_opposite other row)
  where
    by : IsBounded (turnover symbol (with_row rows row)) (turnover symbol rows) (moved symbol row) (places_of symbol (with_row rows row)) (places_of symbol rows) (shown symbol row) → (b : Bool) → IsBounded (turnover symbol (cond b rows (other ∷ with_row rows row))) (moved symbol other + turnover symbol rows) (moved symbol row) (places_of symbol (cond b rows (other ∷ with_row rows row))) (max (shown symbol other) (places_of symbol rows)) (shown symbol row)
    by h true = record { turnover = omega arith; places = omega arith }
    by h false = record { turnover = omega (arith, h.turnover); places = omega (arith, h.places) }

small_units : (row : Row) → IsSmall row → unsigned_abs (units_of row.value) ≤ 2 ^ 31 * 10 ^ 36
small_units row h =
    let power : 10 ^ (36 - row.value.places) ≤ 10 ^ 36 = pow-le-pow_right {n = 10} (lit< tt) {i = 36 - row.value.places} {j = 36} (omega arith) in
    rw (unsigned_abs-mul row.value.mantissa (pos (10 ^ (36 - row.value.places)))) (mul-le-mul h.mantissa power)

cond_le : (b : Bool) (n m : ℕ) → n ≤ m → cond b n 0 ≤ m
cond_le true n m h = h
cond_le false n m h = omega arith

with_rows-bounded : (symbol : List ℕ) (rows stood : List Row) (n : ℕ) → AllSmall rows → turnover symbol stood ≤ n * (2 ^ 31 * 10 ^ 36) → places_of symbol stood ≤ 2 → (turnover symbol (with_rows stood rows) ≤ (n + length rows) * (2 ^ 31 * 10 ^ 36)) × (places_of symbol (with_rows stood rows) ≤ 2)
with_rows-bounded symbol [] stood n small h k = (omega arith, k)
with_rows-bounded symbol (row ∷ rows) stood n small h k =
    let one = with_row-bounded symbol stood row in
    let value = cond_le (bytes_eq row.symbol symbol) _ _ (small_units row small.0) in
    let places = cond_le (bytes_eq row.symbol symbol) _ _ small.0.places in
    let rest = with_rows-bounded symbol rows (with_row stood row) (n + 1) small.1 (omega (arith, one.turnover, value, h)) (omega (arith, one.places, places, k)) in
    (omega (arith, rest.0), rest.1)

few_fit : (t p n : ℕ) → t ≤ n * (2 ^ 31 * 10 ^ 36) → p ≤ 2 → n ≤ 4000000 → t < 2 ^ 127 * 10 ^ (36 - p)
few_fit t p n h k l =
    let power : 10 ^ 34 ≤ 10 ^ (36 - p) = pow-le-pow_right {n = 10} (lit< tt) {i = 34} {j = 36 - p} (omega arith) in
    let larger : 2 ^ 127 * 10 ^ 34 ≤ 2 ^ 127 * 10 ^ (36 - p) = mul-le-mul_left (2 ^ 127) power in
    let whole : n * (2 ^ 31 * 10 ^ 36) ≤ 4000000 * (2 ^ 31 * 10 ^ 36) = mul-le-mul_right (2 ^ 31 * 10 ^ 36) l in
    let room : 4000000 * (2 ^ 31 * 10 ^ 36) < 2 ^ 127 * 10 ^ 34 = lit< tt in
    omega (arith, larger, whole, room, h)

pub small-append : (rows more : List Row) → AllSmall rows → AllSmall more → AllSmall (rows ++ more)
small-append [] more h k = k
small-append (row ∷ rows) more h k = (h.0, small-append rows more h.1 k)

pub length-both : (rows more : List Row) → length (rows ++ more) ≡ length rows + length more
length-both [] more = omega arith
length-both (row ∷ rows) more = omega (arith, length-both rows more)

fits : (rows : List Row) → AllSmall rows → length rows ≤ 4000000 → TurnoverFits (standing rows)
fits rows small few = λ symbol.
    let bound = with_rows-bounded symbol rows [] 0 small (omega arith) (omega arith) in
    few_fit _ _ (0 + length rows) bound.0 bound.1 (omega (arith, few))

pub fits-of : (old rows : List Row) → old ≡ [] → AreSmall rows → TurnoverFits (standing (old ++ rows))
fits-of old rows e h =
    let P : List Row → Type 0 = λ o. TurnoverFits (standing (o ++ rows)) in
    subst P (sym e) (fits rows h.small (omega (arith, h.few)))

pub fits-after : (old rows more : List Row) → old ≡ rows → AreSmall rows → AreSmall more → TurnoverFits (standing (old ++ more))
fits-after old rows more e h k =
    let P : List Row → Type 0 = λ o. TurnoverFits (standing (o ++ more)) in
    subst P (sym e) (fits (rows ++ more) (small-append rows more h.small k.small) (omega (arith, length-both rows more, h.few, k.few)))

pub all-pushed : (new rows : List Row) (row : Row) → new ≡ rows ++ row ∷ [] → AllSmall rows → IsSmall row → AllSmall new
all-pushed new rows row e h k =
    let P : List Row → Type 0 = λ t. AllSmall t in
    subst P (sym e) (small-append rows (row ∷ []) h (k, tt))
