-- Numbers of hours as they are written, and as they are read again.
use Rattle.std.proofs.Common.{ℕ, ℤ, zero, suc, pos, ◌≡◌, ◌+◌, ◌-◌, ◌*◌, ◌/◌, ◌%◌, ◌^◌, ◌<◌, ◌≤◌, Bool, true, false, cond, nat_lt, int_lt, ◌==◌, ◌&&◌, ◌||◌, if◌then◌else◌, List, [], ◌∷◌, ◌++◌, length, reverse, replicate, Option, Some, None, Ok, unsigned_abs, refl, sym, ap, ◌∙◌, arith, lit<, lit≤, append_assoc}
use Rattle.std.specs.List.{find, list_all, list_any, count_by}
use Rattle.std.specs.Fmt.{decimal, sign_text}
use Rattle.std.proofs.lemmas.Bool.Decides.{nat_tests}
use Rattle.std.proofs.lemmas.Fmt.{decimal_by_steps_wide}
use Rattle.std.proofs.lemmas.List.{reverse-append}
use Rattle.std.proofs.lemmas.List.Folds.{list_all-append, list_any-append}
use Rattle.std.proofs.lemmas.List.Sums.{sum_by-cons, sum_by-append}
use Rattle.std.proofs.lemmas.Nat.{mod_below}
use Rattle.std.proofs.lemmas.Str.{encode_ascii}
use Rattle.std.proofs.Math.Nat.{mul-div_cancel, mul-mod_left, div-le_self}
use Rattle.std.proofs.Math.IntN.{pos-*ℤ-pos}
use Rattle.hl_num.specs.declared.printing.Shape.{Shape}
use Rattle.hl_num.specs.declared.reading.Number.{Number}
use Rattle.hl_num.specs.Decimal.{units_of}
use Rattle.hl_num.specs.Rounding.{half_even}
use Rattle.hl_num.specs.Printing.{ends_group, mark_text, grouped, separator, zero_padded, printed_number, printed_scaled}
use Rattle.hl_num.specs.Reading.{is_digit, is_mark, other_mark, is_number_byte, undecided_mark, kept_mark, number_of, number_with, reading}
use Rattle.hl_num.proofs.ReadBackLaws.{number_of-printed, printed_number-sign}
use Rattle.entry_reader.proofs.Both.{both_true}
use Rattle.entry_reader.specs.Lines.{first_is}
use Rattle.time_logs.specs.Quantities.{hundredths}

-- ---- digits

digit-mark : (b : ℕ) → is_digit b ≡ true → is_mark b ≡ false
digit-mark b h = grind (arith, nat_tests)

digit-byte : (b : ℕ) → is_digit b ≡ true → is_number_byte b ≡ true
digit-byte b h = rw h refl

digit-point : (b : ℕ) → is_digit b ≡ true → (b == 46) ≡ false
digit-point b h = grind (arith, nat_tests)

digit_of : (k : ℕ) → k < 10 → is_digit (48 + k) ≡ true
digit_of k h = grind (arith, nat_tests)

pub decimal-digits : (n : ℕ) → n < 10 ^ 64 → list_all is_digit (decimal n) ≡ true
decimal-digits n small =
    decimal_by_steps_wide (λ (_ : ℕ) (ds : List ℕ). list_all is_digit ds ≡ true)
    (λ k one. rw (digit_of k one) refl)
    (λ k ds ten h. list_all-append is_digit ds ((48 + k % 10) ∷ []) ∙ rw (h, digit_of (k % 10) (omega arith)) refl)
    n small

pub decimal-some : (n : ℕ) → n < 10 ^ 64 → list_any is_digit (decimal n) ≡ true
decimal-some n small =
    decimal_by_steps_wide (λ (_ : ℕ) (ds : List ℕ). list_any is_digit ds ≡ true)
    (λ k one. rw (digit_of k one) refl)
    (λ k ds ten h. list_any-append is_digit ds ((48 + k % 10) ∷ []) ∙ rw h refl)
    n small

zeros-digits : (k : ℕ) → list_all is_digit (replicate k 48) ≡ true
zeros-digits zero = refl
zeros-digits (suc k) = zeros-digits k

padded-digits : (p f : ℕ) → f < 10 ^ 64 → list_all is_digit (zero_padded p f) ≡ true
padded-digits p f small =
    let zeros = zeros-digits (p - length (decimal f)) in
    let digits = decimal-digits f small in
    list_all-append is_digit (replicate (p - length (decimal f)) 48) (decimal f) ∙ rw (zeros, digits) refl

bytes-digits : (ds : List ℕ) → list_all is_digit ds ≡ true → list_all is_number_byte ds ≡ true
bytes-digits [] h = refl
bytes-digits (d ∷ ds) h =
    let all = both_true (is_digit d) (list_all is_digit ds) h in
    let here = digit-byte d all.0 in
    let more = bytes-digits ds all.1 in
    rw (here, more) refl

reverse-digits : (ds : List ℕ) → list_all is_digit ds ≡ true → list_all is_digit (reverse ds) ≡ true
reverse-digits [] h = refl
reverse-digits (d ∷ ds) h =
    let all = both_true (is_digit d) (list_all is_digit ds) h in
    ap (list_all is_digit) (reverse-append (d ∷ []) ds)
    ∙ list_all-append is_digit (reverse ds) (d ∷ [])
    ∙ rw (reverse-digits ds all.1, all.0) refl

-- ---- what is printed

-- the hours before the point, and two decimals
abbrev pub whole_part : ℕ → List ℕ
whole_part count = decimal (count / 10 ^ 2)

abbrev pub decimals_part : ℕ → List ℕ
decimals_part count = zero_padded 2 (count % 10 ^ 2)

abbrev pub number_bytes : ℕ → List ℕ
number_bytes count = whole_part count ++ 46 ∷ decimals_part count

no_separator : (b : Bool) → (if b then mark_text None else []) ≡ []
no_separator true = refl
no_separator false = refl

grouped-none : (shape : Shape) (ds : List ℕ) → shape.group ≡ None → grouped shape ds ≡ ds
grouped-none shape [] h = refl
grouped-none shape (d ∷ ds) h =
    let apart : separator shape (length ds) ≡ [] = rw h (no_separator (ends_group shape (length ds))) in
    let more = grouped-none shape ds h in
    rw (apart, more) refl

mark-ascii : (mark : ℕ) → is_mark mark ≡ true → mark < 128
mark-ascii mark m = grind (arith, nat_tests)

test-less : (x y : ℕ) → x < y → nat_lt x y ≡ true
test-less x y h = grind (arith, nat_tests)

printed-marked : (n p : ℕ) (shape : Shape) → 0 < p → shape.group ≡ None → is_mark shape.mark ≡ true
    → printed_scaled false n p shape ≡ decimal (n / 10 ^ p) ++ shape.mark ∷ zero_padded p (n % 10 ^ p)
unfolding printed_scaled
printed-marked n p shape some none m =
    let whole = grouped-none shape (decimal (n / 10 ^ p)) none in
    let text = encode_ascii shape.mark (mark-ascii shape.mark m) in
    let test = test-less 0 p some in
    rw (whole, test, text) refl

-- a point, and no groups
abbrev pub point_shape : Shape
point_shape = record { mark = 46; group = None; first = 3; rest = 3 }

half : (count m : ℕ) → 0 < m → half_even (count * m) m ≡ count
half count m some =
    let none : count * m % m ≡ 0 = mul-mod_left count m in
    let whole : count * m / m ≡ count = mul-div_cancel count some in
    let test : nat_lt 0 m ≡ true = test-less 0 m some in
    rw (none, test, whole) refl

not_negative : (n : ℕ) → int_lt (pos n) (pos 0) ≡ false
not_negative n = grind (arith, nat_tests)

no_sign : (z : ℤ) (n : ℕ) (b : Bool) → z ≡ pos n → sign_text (int_lt z (pos 0) && b) ≡ []
no_sign z n b e =
    let positive = not_negative n in
    rw (e, positive) refl

units : (count : ℕ) → units_of (hundredths count) ≡ pos (count * 10 ^ 34)
units count = pos-*ℤ-pos count (10 ^ 34)

counted : (count : ℕ) → half_even (unsigned_abs (units_of (hundredths count))) (10 ^ (36 - 2)) ≡ count
counted count = ap (λ (z : ℤ). half_even (unsigned_abs z) (10 ^ (36 - 2))) (units count) ∙ half count (10 ^ 34) (lit< tt)

scaled : (count : ℕ) → printed_scaled false count 2 point_shape ≡ number_bytes count
scaled count = printed-marked count 2 point_shape (lit< tt) refl refl

pub number_is : (count : ℕ) → printed_number (hundredths count) 2 point_shape ≡ number_bytes count
number_is count =
    let n = half_even (unsigned_abs (units_of (hundredths count))) (10 ^ (36 - 2)) in
    printed_number-sign (hundredths count) 2 point_shape
    ∙ ap (λ (s : List ℕ). s ++ printed_scaled false n 2 point_shape) (no_sign (units_of (hundredths count)) (count * 10 ^ 34) (nat_lt 0 n) (units count))
    ∙ ap (λ (k : ℕ). printed_scaled false k 2 point_shape) (counted count)
    ∙ scaled count

-- ---- what is read

find-point : (ds rest : List ℕ) → list_all is_digit ds ≡ true → find is_mark (ds ++ 46 ∷ rest) ≡ Some 46
find-point [] rest h = refl
find-point (d ∷ ds) rest h =
    let all = both_true (is_digit d) (list_all is_digit ds) h in
    let here = digit-mark d all.0 in
    let more = find-point ds rest all.1 in
    rw (here, more) refl

abbrev point_count : List ℕ → ℕ
point_count text = count_by (λ b. b == 46) text

count-digits : (ds : List ℕ) → list_all is_digit ds ≡ true → point_count ds ≡ 0
count-digits [] h = refl
count-digits (d ∷ ds) h =
    let all = both_true (is_digit d) (list_all is_digit ds) h in
    let here = digit-point d all.0 in
    let more = count-digits ds all.1 in
    sum_by-cons (λ b. cond (b == 46) 1 0) d ds ∙ rw (here, more) refl

one_point : (whole decs : List ℕ) → list_all is_digit whole ≡ true → list_all is_digit decs ≡ true → point_count (whole ++ 46 ∷ decs) ≡ 1
one_point whole decs w d =
    let none = count-digits whole w in
    let rest = count-digits decs d in
    sum_by-append (λ b. cond (b == 46) 1 0) whole (46 ∷ decs)
    ∙ ap (λ (k : ℕ). point_count whole + k) (sum_by-cons (λ b. cond (b == 46) 1 0) 46 decs)
    ∙ rw (none, rest) refl

or_true : (a : Bool) → (a || true) ≡ true
or_true true = refl
or_true false = refl

kept : (text : List ℕ) (n : ℕ) → point_count text ≡ 1 → kept_mark text (Some 46) ≡ Some 46
kept text n one =
    let test : nat_lt (count_by (λ b. b == 46) text) 2 ≡ true = rw one refl in
    ap (λ (t : Bool). cond {A = Option ℕ} (list_any (λ b. b == other_mark 46) text || t) (Some 46) None) test
    ∙ ap (λ (t : Bool). cond {A = Option ℕ} t (Some 46) None) (or_true (list_any (λ b. b == other_mark 46) text))

undecided : (whole decs : List ℕ) → list_all is_digit whole ≡ true → list_all is_digit decs ≡ true → undecided_mark (whole ++ 46 ∷ decs) ≡ Some 46
undecided whole decs w d =
    let text = whole ++ 46 ∷ decs in
    let found : find is_mark (reverse text) ≡ Some 46 =
    ap (find is_mark) (reverse-append whole (46 ∷ decs)
    ∙ ap (λ (xs : List ℕ). xs ++ reverse whole) (reverse-append (46 ∷ []) decs)
    ∙ append_assoc (reverse decs) (46 ∷ []) (reverse whole))
    ∙ find-point (reverse decs) (reverse whole) (reverse-digits decs d) in
    ap (kept_mark text) found ∙ kept text 0 (one_point whole decs w d)

stands : (whole decs : List ℕ) → list_any (λ b. b == 46) (whole ++ 46 ∷ decs) ≡ true
stands whole decs = list_any-append (λ b. b == 46) whole (46 ∷ decs) ∙ or_true (list_any (λ b. b == 46) whole)

unmarked : (whole decs : List ℕ) → list_all is_digit whole ≡ true → list_all is_digit decs ≡ true
    → number_of (whole ++ 46 ∷ decs) None ≡ number_of (whole ++ 46 ∷ decs) (Some 46)
unmarked whole decs w d =
    let text = whole ++ 46 ∷ decs in
    ap (number_with text) (undecided whole decs w d)
    ∙ sym (ap (λ (t : Bool). number_with text (cond {A = Option ℕ} t (Some 46) None)) (stands whole decs))

-- a number of hours as it is read
abbrev pub hours_number : ℕ → Number
hours_number count = record { value = hundredths count; mark = Some 46; group = None; first = 3; rest = 3 }

read_number : (text : List ℕ) (number : Number) → number_of text None ≡ Some number → reading text None ≡ Ok number
read_number text number e = rw (e, reading) refl

wide_of : (n : ℕ) → n < 2 ^ 127 → n < 10 ^ 64
wide_of n small = let room : 2 ^ 127 ≤ 10 ^ 64 = lit≤ tt in omega (arith, room)

whole_small : (count : ℕ) → count < 2 ^ 127 → count / 10 ^ 2 < 10 ^ 64
whole_small count small = let less : count / 10 ^ 2 ≤ count = div-le_self count (10 ^ 2) in wide_of (count / 10 ^ 2) (omega arith)

decimals_small : (count : ℕ) → count % 10 ^ 2 < 10 ^ 64
decimals_small count =
    let rest : count % 10 ^ 2 < 10 ^ 2 = mod_below count (10 ^ 2) (lit< tt) in
    let room : 10 ^ 2 ≤ 10 ^ 64 = lit≤ tt in
    omega (arith, rest, room)

pub whole_digits : (count : ℕ) → count < 2 ^ 127 → list_all is_digit (whole_part count) ≡ true
whole_digits count small = decimal-digits (count / 10 ^ 2) (whole_small count small)

pub decimals_digits : (count : ℕ) → list_all is_digit (decimals_part count) ≡ true
decimals_digits count = padded-digits 2 (count % 10 ^ 2) (decimals_small count)

pub number_back : (count : ℕ) → count < 2 ^ 127 → reading (number_bytes count) None ≡ Ok (hours_number count)
number_back count small =
    read_number (number_bytes count) (hours_number count)
    (unmarked (whole_part count) (decimals_part count) (whole_digits count small) (decimals_digits count)
    ∙ ap (λ (text : List ℕ). number_of text (Some 46)) (sym (scaled count))
    ∙ number_of-printed count 2 point_shape (lit≤ tt) small refl refl)

-- all its bytes are those of numbers, and the first is a digit
pub number_all : (count : ℕ) → count < 2 ^ 127 → list_all is_number_byte (number_bytes count) ≡ true
number_all count small =
    let front = bytes-digits (whole_part count) (whole_digits count small) in
    let back = bytes-digits (decimals_part count) (decimals_digits count) in
    list_all-append is_number_byte (whole_part count) (46 ∷ decimals_part count) ∙ rw (front, back) refl

first_of_some : (ds rest : List ℕ) → list_all is_digit ds ≡ true → list_any is_digit ds ≡ true → first_is is_digit (ds ++ rest) ≡ true
first_of_some [] rest all some = absurd cc
first_of_some (d ∷ ds) rest all some = (both_true (is_digit d) (list_all is_digit ds) all).0

pub number_first : (count : ℕ) (rest : List ℕ) → count < 2 ^ 127 → first_is is_digit (number_bytes count ++ rest) ≡ true
number_first count rest small =
    ap (first_is is_digit) (append_assoc (whole_part count) (46 ∷ decimals_part count) rest)
    ∙ first_of_some (whole_part count) ((46 ∷ decimals_part count) ++ rest) (whole_digits count small) (decimal-some (count / 10 ^ 2) (whole_small count small))
