-- What the printing of a number does at each digit, and at its sign.
use Rattle.std.proofs.Common.{ℕ, zero, suc, Bool, true, ◌&&◌, nat_lt, int_lt, neg_ℤ, ◌*ℤ◌, unsigned_abs, ⊎_elim, ℤ, pos, negsuc, ◌≡◌, ◌+◌, ◌-◌, ◌*◌, ◌/◌, ◌%◌, ◌^◌, ◌<◌, ◌≤◌, List, [], ◌∷◌, ◌++◌, length, get_or, drop, drop-cons, length-drop, append_assoc, add-one, lit≤, refl, sym, ap, ◌∙◌, arith}
use Rattle.std.specs.Fmt.{decimal}
use Rattle.std.proofs.lemmas.Fmt.{IsAscii-decimal_wide}
use Rattle.std.proofs.Math.Nat.{mul-le-mul_left, zero-div, zero-mod}
use Rattle.hl_num.specs.declared.printing.Shape.{Shape}
use Rattle.std.specs.Fmt.{sign_text}
use Rattle.std.proofs.lemmas.Bool.{cases_eq}
use Rattle.std.proofs.lemmas.Bool.Decides.{nat_tests}
use Rattle.std.proofs.lemmas.Nat.{div-add-mod'}
use Rattle.hl_num.specs.Decimal.{Decimal, units_of}
use Rattle.hl_num.specs.Rounding.{half_even}
use Rattle.hl_num.specs.Printing.{grouped, separator, decimals, printed_number, printed_units, printed_scaled}
use Rattle.hl_num.proofs.RoundingLemmas.{pow_ten_positive}

-- one more digit, with what stands after it
pub grouped-step : (shape : Shape) (before pushed after aim all : List ℕ) (i : ℕ) → i < length all → before ++ grouped shape (drop i all) ≡ aim
    → pushed ≡ before ++ get_or all i 0 ∷ [] → after ≡ pushed ++ separator shape (length all - 1 - i) → after ++ grouped shape (drop (i + 1) all) ≡ aim
grouped-step shape before pushed after aim all i inside held is_pushed is_after =
    let left : length (drop (i + 1) all) ≡ length all - 1 - i = omega (arith, length-drop (i + 1) all) in
    let split : drop i all ≡ get_or all i 0 ∷ drop (i + 1) all = rw add-one (drop-cons all i 0 inside) in
    let held' = rw split at held in
    rw (is_after, is_pushed, ← left) (simp append_assoc held')

-- the digits of a number of 128 bits are ASCII
pub ascii_digit : (n : ℕ) (bytes : List ℕ) (i : ℕ) → n < 2 ^ 128 → bytes ≡ decimal n → get_or bytes i 0 < 128
ascii_digit n bytes i fits is_decimal =
    let room : 2 ^ 128 ≤ 10 ^ 64 = lit≤ tt in
    rw is_decimal (IsAscii-decimal_wide n (omega (arith, room)) i)

-- a negated positive number is negative
negative-neg : (k : ℕ) → 0 < k → int_lt (neg_ℤ (pos k)) (pos 0) ≡ true
negative-neg zero h = absurd (omega arith)
negative-neg (suc k) h = refl

-- a positive factor keeps the sign
pub negative-mul : (m : ℤ) (n : ℕ) → 0 < n → int_lt (m *ℤ pos n) (pos 0) ≡ int_lt m (pos 0)
negative-mul (pos a) n h = grind (arith, nat_tests)
negative-mul (negsuc a) n h = negative-neg (suc a * n) (omega (arith, mul-le-mul_left (suc a) h))

-- a quotient and its remainder are both zero only at zero
parts-positive : (n d : ℕ) → 0 < n → 0 < n / d + n % d
parts-positive n d h =
    ⊎_elim
    (λ none. omega (arith, div-add-mod' n d, ap (λ (x : ℕ). x * d) none))
    (λ some. omega (arith, some))
    (cases_eq (n / d) 0)

pub nonzero-parts : (n d : ℕ) → nat_lt 0 (n / d + n % d) ≡ nat_lt 0 n
nonzero-parts zero d = rw (zero-div, zero-mod) refl
nonzero-parts (suc k) d = let some = parts-positive (suc k) d (omega arith) in grind (arith, nat_tests)

-- what was put one after the other is the printed number
pub printed-parts : (v : Decimal) (p whole fraction : ℕ) (shape : Shape) (has : Bool) (text : List ℕ)
    → whole ≡ half_even (unsigned_abs (units_of v)) (10 ^ (36 - p)) / 10 ^ p → fraction ≡ half_even (unsigned_abs (units_of v)) (10 ^ (36 - p)) % 10 ^ p
    → has ≡ (int_lt v.mantissa (pos 0) && nat_lt 0 (whole + fraction))
    → text ≡ sign_text has ++ grouped shape (decimal whole) ++ decimals shape p fraction
    → text ≡ printed_number v p shape
unfolding printed_units printed_scaled
printed-parts v p whole fraction shape has text is_whole is_fraction signed is_text =
    let rounded = half_even (unsigned_abs (units_of v)) (10 ^ (36 - p)) in
    let sign : has ≡ (int_lt (units_of v) (pos 0) && nat_lt 0 rounded) =
    signed
    ∙ ap (λ (x : Bool). x && nat_lt 0 (whole + fraction)) (sym (negative-mul v.mantissa (10 ^ (36 - v.places)) (pow_ten_positive (36 - v.places))))
    ∙ ap (λ (x : Bool). int_lt (units_of v) (pos 0) && x) (rw (is_whole, is_fraction) (nonzero-parts rounded (10 ^ p))) in
    is_text ∙ rw (sign, is_whole, is_fraction) refl
