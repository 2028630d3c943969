-- Hours of sessions and quantities are few.
use Rattle.std.proofs.Common.{◌≡◌, ℕ, ℤ, pos, ◌+◌, ◌-◌, ◌*◌, ◌/◌, ◌%◌, ◌^◌, ◌<◌, ◌≤◌, min, max, Bool, true, false, cond, nat_lt, int_lt, ◌==◌, List, [], ◌∷◌, length, Some, refl, ap, ◌∙◌, arith, lit<}
use Rattle.std.specs.List.{fold}
use Rattle.std.proofs.lemmas.Bool.Decides.{nat_tests}
use Rattle.std.proofs.lemmas.List.Sums.{length-filter, count_by-le-length}
use Rattle.std.proofs.Math.IntN.{pos-*ℤ-pos}
use Rattle.std.proofs.Math.Nat.{mul-le-mul, pow-le-pow_right}
use Rattle.hl_num.specs.Decimal.{Decimal}
use Rattle.hl_num.specs.Rounding.{half_even, signed_half_even, with_sign}
use Rattle.time_logs.specs.Days.{hours_of, seconds_on}
use Rattle.time_logs.specs.Quantities.{most, hundredths, dots_in, is_dots, with_digit, number_of, is_number, whole_of, decimals_of, number_hours, minutes_in, quantity_of}
use Rattle.time_logs.specs.declared.sessions.Session.{Session}
use Rattle.written_logs.proofs.Parts.{Holds, some_holds, either_holds, IsPart}
use Rattle.written_logs.proofs.Said.{bind_any}

not_negative : (n : ℕ) → int_lt (pos n) (pos 0) ≡ false
not_negative n = grind (arith, nat_tests)

-- seconds as hundredths of hours
abbrev pub rounded_hours : ℕ → ℕ
rounded_hours seconds = half_even (seconds * 10 ^ 2) 3600

abbrev of_hundredths : ℤ → Decimal
of_hundredths z = record { mantissa = z; places = 2 }

pub hours_is : (seconds : ℕ) → hours_of seconds ≡ hundredths (rounded_hours seconds)
hours_is seconds =
    ap (λ (z : ℤ). of_hundredths (signed_half_even z 3600)) (pos-*ℤ-pos seconds (10 ^ 2))
    ∙ ap (λ (t : Bool). of_hundredths (with_sign t (rounded_hours seconds))) (not_negative (seconds * 10 ^ 2))

half_by : (t u : Bool) (q : ℕ) → cond t q (cond u (q + 1) (q + q % 2)) ≤ q + 1
half_by true u q = omega arith
half_by false true q = omega arith
half_by false false q = omega arith

half_small : (n d : ℕ) → half_even n d ≤ n / d + 1
half_small n d = half_by (nat_lt (2 * (n % d)) d) (nat_lt d (2 * (n % d))) (n / d)

rounded_few : (seconds : ℕ) → seconds ≤ 2 ^ 80 → rounded_hours seconds < 2 ^ 100
rounded_few seconds h = bound seconds (rounded_hours seconds) h (half_small (seconds * 10 ^ 2) 3600)
  where
    bound : (s r : ℕ) → s ≤ 2 ^ 80 → r ≤ s * 10 ^ 2 / 3600 + 1 → r < 2 ^ 100
    bound s r h k = omega arith

day_seconds : (from until day : ℕ) → min until (day * 86400) - max from ((day - 1) * 86400) ≤ 2 ^ 80
day_seconds from until day = omega arith

pub session_few : (s : Session) (day : ℕ) → rounded_hours (seconds_on s day) < 2 ^ 100
session_few s day = rounded_few (seconds_on s day) (day_seconds s.from s.until day)

-- ---- quantities

-- hundredths of hours, fewer than 2^100
pub record IsFew (v : Decimal) : Type 0 where
  pub count : ℕ
  pub is : v ≡ hundredths count
  pub few : count < 2 ^ 100

number_below : (n : ℕ) (digits : List ℕ) → n ≤ most → fold with_digit n digits ≤ most
number_below n [] h = h
number_below n (d ∷ ds) h = number_below (with_digit n d) ds (least (10 * n + (d - 48)))
  where
    least : (x : ℕ) → min x most ≤ most
    least x = omega arith

number_small : (digits : List ℕ) → number_of digits ≤ most
number_small digits = number_below 0 digits (omega arith)

dots_few : (text : List ℕ) → IsPart text → 25 * dots_in text < 2 ^ 100
dots_few text is = bound (dots_in text) (length text) (within text) is.short
  where
    within : (text : List ℕ) → dots_in text ≤ length text
    within text = omega (arith, length-filter (λ b. b == 46) text, count_by-le-length (λ b. b == 46) text)

    bound : (d l : ℕ) → d ≤ l → l ≤ 2 ^ 24 → 25 * d < 2 ^ 100
    bound d l h k = omega arith

hours_few : (a b p : ℕ) → a ≤ most → b ≤ most → p ≤ 100 → 100 * a + b * p < 2 ^ 100
hours_few a b p ha hb hp =
    let product : b * p ≤ most * 100 = mul-le-mul hb hp in
    omega (arith, product)

ten_few : (k : ℕ) → 10 ^ (2 - k) ≤ 100
ten_few k = pow-le-pow_right {n = 10} (lit< tt) (le k)
  where
    le : (k : ℕ) → 2 - k ≤ 2
    le k = omega arith

minutes_few : (n : ℕ) → n ≤ most → 60 * n ≤ 2 ^ 80
minutes_few n h = omega arith

pub quantity_holds : (text : List ℕ) → IsPart text → Holds IsFew (quantity_of text)
unfolding quantity_of
quantity_holds text is =
    either_holds IsFew (is_dots text) _ _
    (λ _. some_holds IsFew (hundredths (25 * dots_in text)) (record { count = 25 * dots_in text; is = refl; few = dots_few text is }))
    (λ _. either_holds IsFew (is_number text) _ _
    (λ _. some_holds IsFew (number_hours text) (record {
      count = 100 * number_of (whole_of text) + number_of (decimals_of text) * 10 ^ (2 - length (decimals_of text));
      is = refl;
      few = hours_few (number_of (whole_of text)) (number_of (decimals_of text)) (10 ^ (2 - length (decimals_of text)))
          (number_small (whole_of text)) (number_small (decimals_of text)) (ten_few (length (decimals_of text)));
    }))
    (λ _. bind_any IsFew (minutes_in text) (λ digits. Some (hours_of (60 * number_of digits))) (λ (digits : List ℕ).
    some_holds IsFew (hours_of (60 * number_of digits)) (record {
      count = rounded_hours (60 * number_of digits);
      is = hours_is (60 * number_of digits);
      few = rounded_few (60 * number_of digits) (minutes_few (number_of digits) (number_small digits));
    }))))
