-- Cents as a sample writes them, and their digits.
use Rattle.std.proofs.Common.{ℕ, ◌≡◌, ◌+◌, ◌-◌, ◌*◌, ◌/◌, ◌%◌, ◌^◌, ◌<◌, ◌≤◌, inl, inr, Bool, true, false, ltb, not, ◌==◌, ◌&&◌, List, [], ◌∷◌, ◌++◌, length, replicate, zero, suc, sym, ap, ◌∙◌, arith, append_assoc, length-append}
use Rattle.std.specs.Fmt.{decimal}
use Rattle.std.specs.List.{suffix_len}
use Rattle.std.proofs.lemmas.Bool.{cases_lt}
use Rattle.std.proofs.lemmas.Bool.Decides.{nat_tests}
use Rattle.std.proofs.lemmas.Fmt.{decimal_digit, decimal_step, decimal_by_steps}
use Rattle.hl_base.specs.Items.{is_white}
use Rattle.hl_num.specs.Printing.{zero_padded}
use Rattle.hl_num.specs.Reading.{is_digit, is_number_byte}
use Rattle.sample_text.specs.Sample.{cents_of, kind_of, money, number_of, spent_by, two_digits}
use Rattle.written_logs.proofs.Bytes.{solid_last}
use Rattle.written_logs.proofs.Numbers.{number_bytes}

-- ---- two decimals

one_digit : (m : ℕ) → m < 10 → zero_padded 2 m ≡ two_digits m
one_digit m small =
    let tens : 0 ≡ m / 10 = omega arith in
    let ones : m ≡ m % 10 = omega arith in
    ap (λ (ds : List ℕ). replicate (2 - length ds) 48 ++ ds) (decimal_digit m small)
    ∙ (λ i. (48 + tens i) ∷ (48 + ones i) ∷ [])

both_digits : (m : ℕ) → 10 ≤ m → m < 100 → zero_padded 2 m ≡ two_digits m
both_digits m ten small =
    let front : m / 10 < 10 = omega arith in
    let wide : m < 2 ^ 64 = omega arith in
    ap (λ (ds : List ℕ). replicate (2 - length ds) 48 ++ ds)
    (decimal_step m ten wide ∙ ap (λ (ds : List ℕ). ds ++ (48 + m % 10) ∷ []) (decimal_digit (m / 10) front))

pub padded : (m : ℕ) → m < 100 → zero_padded 2 m ≡ two_digits m
padded m small =
    elim (cases_lt m 10) [
      | inl less ↦ one_digit m less
      | inr ten ↦ both_digits m ten small
    ]

-- the symbol behind a space
abbrev pub symbol_bytes : List ℕ
symbol_bytes = 32 ∷ 69 ∷ 85 ∷ 82 ∷ []

pub money_is : (cents : ℕ) → money cents ≡ number_bytes cents ++ symbol_bytes
unfolding money
money_is cents =
    let small : cents % 100 < 100 = omega arith in
    ap (λ (ds : List ℕ). ((decimal (cents / 100) ++ 46 ∷ []) ++ ds) ++ symbol_bytes) (sym (padded (cents % 100) small))
    ∙ ap (λ (ds : List ℕ). ds ++ symbol_bytes) (append_assoc (decimal (cents / 100)) (46 ∷ []) (zero_padded 2 (cents % 100)))

-- ---- what an entry's number says

below_ten : (n : ℕ) → n % 10 < 10
below_ten n = omega arith

some_more : (n : ℕ) → 1 ≤ 1 + n % 100000
some_more n = omega arith

few_more : (n : ℕ) → 1 + n % 100000 ≤ 100000
few_more n = omega arith

pub kind_small : (number : ℕ) → kind_of number < 10
unfolding kind_of
kind_small number = below_ten number

pub cents_some : (number : ℕ) → 1 ≤ cents_of number
unfolding cents_of
cents_some number = some_more (number / 10)

pub cents_few : (number : ℕ) → cents_of number ≤ 100000
unfolding cents_of
cents_few number = few_more (number / 10)

pub spent_few : (count i : ℕ) → spent_by count i ≤ 100000 * i
spent_few count zero = omega arith
spent_few count (suc i) =
    let more = spent_few count i in
    let one = cents_few (number_of count i) in
    omega arith

-- ---- plain bytes

-- ASCII, and no line's end
abbrev pub is_plain : ℕ → Bool
is_plain b = ltb b 128 && not (b == 10)

pub number_plain : (b : ℕ) → is_number_byte b ≡ true → is_plain b ≡ true
number_plain b h = grind (arith, nat_tests)

pub digit_plain : (b : ℕ) → is_digit b ≡ true → is_plain b ≡ true
digit_plain b h = grind (arith, nat_tests)

digit_solid : (k : ℕ) → k < 10 → is_white (48 + k) ≡ false
digit_solid k h = grind (arith, nat_tests)

pub digit_at : (k : ℕ) → k < 10 → is_digit (48 + k) ≡ true
digit_at k h = grind (arith, nat_tests)

-- a number in decimal has a digit, and ends with one
pub decimal_solid : (n : ℕ) → n < 2 ^ 64 → suffix_len is_white (decimal n) ≡ 0
decimal_solid n small =
    decimal_by_steps (λ (_ : ℕ) (ds : List ℕ). suffix_len is_white ds ≡ 0)
    (λ k one. solid_last [] (48 + k) (digit_solid k one))
    (λ k ds ten h. solid_last ds (48 + k % 10) (digit_solid (k % 10) (omega arith)))
    n small

pub decimal_some : (n : ℕ) → n < 2 ^ 64 → 0 < length (decimal n)
decimal_some n small =
    decimal_by_steps (λ (_ : ℕ) (ds : List ℕ). 0 < length ds)
    (λ k one. omega arith)
    (λ k ds ten h. omega (arith, length-append ds ((48 + k % 10) ∷ [])))
    n small
