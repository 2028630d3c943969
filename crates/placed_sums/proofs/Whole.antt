-- Sums in a symbol as multiples of the smallest unit that its amounts have, and how many decimals they need.
use Rattle.std.proofs.Common.{◌≡◌, ℕ, ℤ, pos, ◌&&◌, nat_lt, ◌+◌, ◌-◌, ◌*◌, ◌%◌, ◌^◌, ◌<◌, ◌≤◌, ◌+ℤ◌, ◌*ℤ◌, unsigned_abs, max, Bool, true, false, cond, List, [], ◌∷◌, filter, inl, inr, refl, sym, ap, ◌∙◌, arith}
use Rattle.std.specs.Str.{bytes_eq}
use Rattle.std.proofs.lemmas.Bool.{cases_lt, false≢true}
use Rattle.std.proofs.lemmas.Int.{ints, unsigned_abs-mul}
use Rattle.std.proofs.lemmas.Nat.{pow-add}
use Rattle.hl_num.specs.Decimal.{Decimal, IsTrimmed, units_of}
use Rattle.hl_num.proofs.DecimalLemmas.{cancel, mul-add, mul-mul}
use Rattle.hl_num.proofs.RoundingLemmas.{pow_ten_positive}
use Rattle.live_index.specs.Rows as rows
use Rattle.live_index.specs.declared.row.Row.{Row}

-- a value in units of 10 ^ -q
pub record IsWhole (z : ℤ) (q : ℕ) : Type 0 where
  pub count : ℤ
  pub is : z ≡ count *ℤ pos (10 ^ (36 - q))

zero_times : (n : ℕ) → pos 0 ≡ pos 0 *ℤ pos n
zero_times n = let e : 0 * n ≡ 0 = omega arith in sym (ap pos e)

whole_none : (q : ℕ) → IsWhole (pos 0) q
whole_none q = record { count = pos 0; is = zero_times (10 ^ (36 - q)) }

whole_both : (x y : ℤ) (q : ℕ) → IsWhole x q → IsWhole y q → IsWhole (x +ℤ y) q
whole_both x y q a b = record {
  count = a.count +ℤ b.count;
  is = (λ i. a.is i +ℤ b.is i) ∙ sym (mul-add a.count b.count (10 ^ (36 - q)));
}

whole_number : (d : Decimal) (q : ℕ) → d.places ≤ q → IsWhole (units_of d) q
whole_number d q few =
    let more = (36 - d.places) - (36 - q) in
    let split : 36 - d.places ≡ more + (36 - q) = omega arith in
    record {
      count = d.mantissa *ℤ pos (10 ^ more);
      is = ap (λ (k : ℕ). d.mantissa *ℤ pos (10 ^ k)) split
          ∙ ap (λ (k : ℕ). d.mantissa *ℤ pos k) (pow-add 10 more (36 - q))
          ∙ sym (mul-mul d.mantissa (10 ^ more) (10 ^ (36 - q)));
    }

first_few : (a b q : ℕ) → max a b ≤ q → a ≤ q
first_few a b q h = omega arith

second_few : (a b q : ℕ) → max a b ≤ q → b ≤ q
second_few a b q h = omega arith

-- the sum of some rows of a symbol
pub total_whole : (symbol : List ℕ) (test : Row → Bool) (q : ℕ) → ((row : Row) → test row ≡ true → bytes_eq row.symbol symbol ≡ true) → (rs : List Row) → rows.places_of symbol rs ≤ q → IsWhole (rows.total (filter test rs)) q
total_whole symbol test q of [] few = whole_none q
total_whole symbol test q of (row ∷ rs) few =
    let shown = cond (bytes_eq row.symbol symbol) row.value.places 0 in
    let rest = total_whole symbol test q of rs (second_few shown (rows.places_of symbol rs) q few) in
    by (test row) (bytes_eq row.symbol symbol) (of row) (first_few shown (rows.places_of symbol rs) q few) rest
  where
    by : (t s : Bool) → (t ≡ true → s ≡ true) → cond s row.value.places 0 ≤ q → IsWhole (rows.total (filter test rs)) q → IsWhole (rows.total (cond t (row ∷ filter test rs) (filter test rs))) q
    by true true h few rest = whole_both (units_of row.value) (rows.total (filter test rs)) q (whole_number row.value q few) rest
    by true false h few rest = absurd (false≢true (h refl))
    by false s h few rest = rest

left : (x y : Bool) → (x && y) ≡ true → x ≡ true
left true y h = refl
left false y h = h

pub before_whole : (rs : List Row) (account symbol : List ℕ) (below : Bool) (end q : ℕ) → rows.places_of symbol rs ≤ q → IsWhole (rows.sum_before rs account symbol below end) q
before_whole rs account symbol below end q few =
    total_whole symbol (λ row. rows.counts account symbol below row && nat_lt row.day.0 end) q (λ row h. left (bytes_eq row.symbol symbol) _ (left (rows.counts account symbol below row) _ h)) rs few

-- ---- without zeros at its end

no_rest : (k n : ℕ) → 0 < n → (k * 10 ^ n) % 10 ≡ 0
no_rest k n h =
    let split : n ≡ (n - 1) + 1 = omega arith in
    let whole : k * 10 ^ n ≡ k * 10 ^ (n - 1) * 10 = ap (λ x. k * 10 ^ x) split ∙ ap (λ x. k * x) (pow-add 10 (n - 1) 1) ∙ omega arith in
    omega (arith, whole)

-- fewer places and the same value: a zero stands at the end
fewer : (a b : Decimal) → a.places < b.places → b.places ≤ 36 → IsTrimmed b → units_of a ≡ units_of b → ⊥
fewer a b less few trim same =
    let split : 36 - a.places ≡ (b.places - a.places) + (36 - b.places) = omega arith in
    let scaled : a.mantissa *ℤ pos (10 ^ (b.places - a.places)) *ℤ pos (10 ^ (36 - b.places)) ≡ b.mantissa *ℤ pos (10 ^ (36 - b.places)) =
    mul-mul a.mantissa (10 ^ (b.places - a.places)) (10 ^ (36 - b.places)) ∙ ap (λ (n : ℕ). a.mantissa *ℤ pos n) (sym (pow-add 10 (b.places - a.places) (36 - b.places)) ∙ ap (λ (k : ℕ). 10 ^ k) (sym split)) ∙ same in
    let is = cancel (a.mantissa *ℤ pos (10 ^ (b.places - a.places))) b.mantissa (10 ^ (36 - b.places)) (pow_ten_positive (36 - b.places)) scaled in
    let size : unsigned_abs b.mantissa ≡ unsigned_abs a.mantissa * 10 ^ (b.places - a.places) = ap unsigned_abs (sym is) ∙ unsigned_abs-mul a.mantissa (pos (10 ^ (b.places - a.places))) in
    let zero_rest = no_rest (unsigned_abs a.mantissa) (b.places - a.places) (omega arith) in
    let some = trim (omega arith) in
    omega (arith, some, ap (λ x. x % 10) size, zero_rest)

-- a number without zeros at its end has no more decimals than its value needs
pub trimmed_few : (d : Decimal) (z : ℤ) (q : ℕ) → IsTrimmed d → d.places ≤ 36 → units_of d ≡ z → IsWhole z q → d.places ≤ q
trimmed_few d z q trim few is whole =
    elim (cases_lt q d.places) [
      | inl less ↦ absurd (fewer (record { mantissa = whole.count; places = q }) d less few trim (sym whole.is ∙ sym is))
      | inr no_more ↦ no_more
    ]
