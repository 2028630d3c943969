-- All that numbers move, by number of decimals, is what they move in one sum.
use Rattle.std.proofs.Common.{◌≡◌, ◌≢◌, ◌↔◌, ℕ, zero, suc, ℤ, pos, ◌+◌, ◌-◌, ◌*◌, ◌^◌, ◌<◌, ◌≤◌, ◌==◌, nat_lt, unsigned_abs, Bool, true, false, cond, List, [], ◌∷◌, map, filter, fold, length, inl, inr, refl, sym, ap, subst, ◌∙◌, arith, mul_assoc, mul-one, pow-suc, eqb-true, eq-eqb, ltb-true, ltb-false, le_antisymm}
use Rattle.std.specs.Str.{bytes_eq}
use Rattle.std.proofs.lemmas.Bool.{cases_order, false≢true}
use Rattle.std.proofs.lemmas.Bool.Decides.{Decides-ltb}
use Rattle.std.proofs.lemmas.Int.{unsigned_abs-mul}
use Rattle.hl_num.specs.Decimal.{Decimal, mantissa_at}
use Rattle.book.specs.Mixed.{plus}
use Rattle.entry_balance.specs.Tally.{is_within, no_sum, numbers_of, turnover_fits}
use Rattle.entry_balance.specs.Values.{Value, absolute}
use Rattle.entry_balance.proofs.Turnover.{AllAtMost, exact-abs, fits-from_each, magnitude, places_within, sum_places-all, total_within}
use Rattle.kept_turnover.specs.Moved.{AreFew, count_of, in_units, mantissas, sum_of, turnover_in, whole, with_places}

-- ---- a sum at one number of decimals

abbrev alone : ℕ → ℕ → ℕ → ℕ
alone p m n = cond (p == n) m 0

in_units-both : (f g h : ℕ → ℕ) → ((n : ℕ) → h n ≡ f n + g n) → (k : ℕ) → in_units h k ≡ in_units f k + in_units g k
in_units-both f g h e zero = omega arith
in_units-both f g h e (suc k) =
    let rest = in_units-both f g h e k in
    let here = e k in
    omega (arith, rest, here)

in_units-none : (k : ℕ) → in_units (λ n. 0) k ≡ 0
in_units-none zero = refl
in_units-none (suc k) = let rest = in_units-none k in omega (arith, rest)

apart : (p k : ℕ) → k < p → (p == k) ≡ false
apart p k h = elim (p == k) as (λ b. (p == k) ≡ b → b ≡ false) [
  | true ↦ λ e. absurd (let same = eqb-true p k e in omega (arith, h, same))
  | false ↦ λ e. refl
] refl

below_from : (p k : ℕ) → p < suc k → (p == k) ≡ false → p < k
below_from p k h e = elim (cases_order p k) [
  | inl same ↦ absurd (false≢true (sym e ∙ eq-eqb p k same))
  | inr (inl below) ↦ below
  | inr (inr above) ↦ absurd (omega (arith, h, above))
]

in_units-below : (p m k : ℕ) → k ≤ p → in_units (alone p m) k ≡ 0
in_units-below p m zero h = refl
in_units-below p m (suc k) h =
    let rest = in_units-below p m k (omega (arith, h)) in
    let here : alone p m k ≡ 0 = ap (λ (b : Bool). cond b m 0) (apart p k (omega (arith, h))) in
    omega (arith, rest, here)

alone_step : (p m k : ℕ) → (p < k → in_units (alone p m) k ≡ m * 10 ^ (k - suc p)) → p < suc k → (b : Bool) → (p == k) ≡ b
    → in_units (alone p m) k * 10 + cond b m 0 ≡ m * 10 ^ (suc k - suc p)
alone_step p m k rest h true e =
    let same : p ≡ k = eqb-true p k e in
    let none : in_units (alone p m) k ≡ 0 = in_units-below p m k (omega (arith, same)) in
    let places : suc k - suc p ≡ 0 = omega (arith, same) in
    let power : m * 10 ^ (suc k - suc p) ≡ m = ap (λ (n : ℕ). m * 10 ^ n) places ∙ mul-one m in
    omega (arith, none, power)
alone_step p m k rest h false e =
    let below : p < k = below_from p k h e in
    let is : in_units (alone p m) k * 10 ≡ m * 10 ^ (k - suc p) * 10 = ap (λ (n : ℕ). n * 10) (rest below) in
    let places : suc (k - suc p) ≡ suc k - suc p = omega (arith, below) in
    let power : m * 10 ^ (k - suc p) * 10 ≡ m * 10 ^ (suc k - suc p) =
    mul_assoc m (10 ^ (k - suc p)) 10 ∙ ap (λ (n : ℕ). m * n) (sym (pow-suc 10 (k - suc p)) ∙ ap (λ (n : ℕ). 10 ^ n) places) in
    let sum : in_units (alone p m) k * 10 ≡ m * 10 ^ (suc k - suc p) = is ∙ power in
    omega (arith, sum)

in_units-alone : (p m k : ℕ) → p < k → in_units (alone p m) k ≡ m * 10 ^ (k - suc p)
in_units-alone p m zero h = absurd (omega (arith, h))
in_units-alone p m (suc k) h = alone_step p m k (λ below. in_units-alone p m k below) h (p == k) refl

-- ---- all numbers

one_more : (n : ℕ) (d : Decimal) (ds : List Decimal) → sum_of (d ∷ ds) n ≡ alone d.places (unsigned_abs d.mantissa) n + sum_of ds n
one_more n d ds =
    elim (d.places == n) as (λ b. mantissas (cond b (d ∷ with_places n ds) (with_places n ds)) ≡ cond b (unsigned_abs d.mantissa) 0 + mantissas (with_places n ds)) [
      | true ↦ refl
      | false ↦ omega arith
    ]

pub magnitude-is : (q : ℕ) (ds : List Decimal) → AllAtMost q ds → magnitude q ds ≡ in_units (sum_of ds) (suc q)
magnitude-is q [] h = sym (in_units-none (suc q))
magnitude-is q (d ∷ ds) h =
    let m = unsigned_abs d.mantissa in
    let few = h.0 in
    let places : suc q - suc d.places ≡ q - d.places = omega (arith, few) in
    let one : unsigned_abs (mantissa_at d q) ≡ in_units (alone d.places m) (suc q) =
    unsigned_abs-mul d.mantissa (pos (10 ^ (q - d.places))) ∙ ap (λ (n : ℕ). m * 10 ^ n) (sym places) ∙ sym (in_units-alone d.places m (suc q) (omega (arith, few))) in
    let rest : magnitude q ds ≡ in_units (sum_of ds) (suc q) = magnitude-is q ds h.1 in
    ap (λ (n : ℕ). n + magnitude q ds) one ∙ ap (λ (n : ℕ). in_units (alone d.places m) (suc q) + n) rest
    ∙ sym (in_units-both (alone d.places m) (sum_of ds) (sum_of (d ∷ ds)) (λ n. one_more n d ds) (suc q))

-- ---- the greatest number of decimals

abbrev top : List Decimal → ℕ
top ds = (fold plus no_sum ds).places

at_most-less : (n : ℕ) (ds : List Decimal) → AllAtMost (suc n) ds → count_of ds (suc n) ≡ 0 → AllAtMost n ds
at_most-less n [] h none = tt
at_most-less n (d ∷ ds) h none =
    elim (d.places == suc n) as (λ b. (d.places == suc n) ≡ b → length (cond b (d ∷ with_places (suc n) ds) (with_places (suc n) ds)) ≡ 0 → AllAtMost n (d ∷ ds)) [
      | true ↦ λ e some. absurd (omega (arith, some))
      | false ↦ λ e rest.
          let few = h.0 in
          let below = below_from d.places (suc n) (omega (arith, few)) e in
          (omega (arith, below), at_most-less n ds h.1 rest)
    ] refl none

none_at : (ds : List Decimal) → AllAtMost 0 ds → count_of ds 0 ≡ 0 → ds ≡ []
none_at [] h none = refl
none_at (d ∷ ds) h none =
    let few = h.0 in
    let e : (d.places == 0) ≡ true = eq-eqb d.places 0 (omega (arith, few)) in
    let some : suc (length (with_places 0 ds)) ≡ 0 = ap (λ (b : Bool). length (cond b (d ∷ with_places 0 ds) (with_places 0 ds))) (sym e) ∙ none in
    absurd (omega (arith, some))

top_least : (n q : ℕ) (ds : List Decimal) → AllAtMost q ds → 0 < count_of ds n → n ≤ q
top_least n q [] h some = absurd (omega (arith, some))
top_least n q (d ∷ ds) h some =
    elim (d.places == n) as (λ b. (d.places == n) ≡ b → 0 < length (cond b (d ∷ with_places n ds) (with_places n ds)) → n ≤ q) [
      | true ↦ λ e there.
          let few = h.0 in
          let same = eqb-true d.places n e in
          omega (arith, few, same)
      | false ↦ λ e rest. top_least n q ds h.1 rest
    ] refl some

pub none_past : (q n : ℕ) (ds : List Decimal) → AllAtMost q ds → q < n → count_of ds n ≡ 0
none_past q n ds h past =
    elim (nat_lt 0 (count_of ds n)) as (λ b. nat_lt 0 (count_of ds n) ≡ b → count_of ds n ≡ 0) [
      | true ↦ λ e.
          let least = top_least n q ds h (ltb-true 0 (count_of ds n) e) in
          absurd (omega (arith, past, least))
      | false ↦ λ e. let least = ltb-false 0 (count_of ds n) e in omega (arith, least)
    ] refl

abbrev IsWhole : ℕ → List Decimal → Type 0
IsWhole n ds = whole (count_of ds) (sum_of ds) n ≡ in_units (sum_of ds) (suc (top ds))

whole_step : (n : ℕ) (ds : List Decimal) → AllAtMost n ds → (count_of ds n ≡ 0 → IsWhole n ds) → IsWhole (suc n) ds
whole_step n ds h rest =
    elim (nat_lt 0 (count_of ds n)) as (λ b. nat_lt 0 (count_of ds n) ≡ b → cond b (in_units (sum_of ds) (suc n)) (whole (count_of ds) (sum_of ds) n) ≡ in_units (sum_of ds) (suc (top ds))) [
      | true ↦ λ e.
          let least : n ≤ top ds = top_least n (top ds) ds (sum_places-all no_sum ds) (ltb-true 0 (count_of ds n) e) in
          let most : top ds ≤ n = places_within no_sum n ds (omega arith) h in
          ap (λ (k : ℕ). in_units (sum_of ds) (suc k)) (le_antisymm least most)
      | false ↦ λ e. rest (let none = ltb-false 0 (count_of ds n) e in omega (arith, none))
    ] refl

whole_start : (ds : List Decimal) → ds ≡ [] → IsWhole 0 ds
whole_start ds e = sym (ap (λ (xs : List Decimal). in_units (sum_of xs) (suc (top xs))) e)

pub whole-is : (n : ℕ) (ds : List Decimal) → AllAtMost n ds → IsWhole (suc n) ds
whole-is zero ds h = whole_step zero ds h (λ none. whole_start ds (none_at ds h none))
whole-is (suc n) ds h = whole_step (suc n) ds h (λ none. whole-is n ds (at_most-less n ds h none))

-- ---- what moves in a symbol

pub few_numbers : (s : List ℕ) (vs : List Value) → AreFew vs → AllAtMost 36 (numbers_of s vs)
few_numbers s [] h = tt
few_numbers s (v ∷ vs) h =
    elim (bytes_eq v.0 s) as (λ b. AllAtMost 36 (map (λ (v : Value). v.1) (cond b (v ∷ filter (λ (v : Value). bytes_eq v.0 s) vs) (filter (λ (v : Value). bytes_eq v.0 s) vs)))) [
      | true ↦ (h.0, few_numbers s vs h.1)
      | false ↦ few_numbers s vs h.1
    ]

sum-is : (ds : List Decimal) → AllAtMost 36 ds → (fold plus no_sum (map absolute ds)).mantissa ≡ pos (whole (count_of ds) (sum_of ds) (suc 36))
sum-is ds few = exact-abs ds ∙ ap pos (magnitude-is (top ds) ds (sum_places-all no_sum ds) ∙ sym (whole-is 36 ds few))

pub within-is : (s : List ℕ) (vs : List Value) → AreFew vs → is_within (fold plus no_sum (map absolute (numbers_of s vs))) ≡ nat_lt (turnover_in s vs) (2 ^ 127)
within-is s vs few = ap (λ (z : ℤ). nat_lt (unsigned_abs z) (2 ^ 127)) (sum-is (numbers_of s vs) (few_numbers s vs few))

pub fits-iff : (vs : List Value) → AreFew vs → (turnover_fits vs ≡ true) ↔ ((s : List ℕ) → turnover_in s vs < 2 ^ 127)
fits-iff vs few = (
  λ h s. ltb-true (turnover_in s vs) (2 ^ 127) (sym (within-is s vs few) ∙ total_within s vs h),
  λ h. fits-from_each vs (λ s. within-is s vs few ∙ (Decides-ltb (turnover_in s vs) (2 ^ 127)).1 (h s)),
)
