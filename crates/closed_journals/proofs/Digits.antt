-- Numbers as entries show them, and as they are read again.
use Rattle.std.proofs.Common.{ℕ, ℤ, zero, suc, pos, negsuc, ◌≡◌, ◌+◌, ◌-◌, ◌*◌, ◌/◌, ◌%◌, ◌^◌, ◌<◌, ◌≤◌, ◌*ℤ◌, neg_ℤ, Bool, true, false, cond, nat_lt, int_lt, ◌==◌, ◌&&◌, ◌||◌, if◌then◌else◌, List, [], ◌∷◌, ◌++◌, length, reverse, replicate, Option, Some, None, Ok, unsigned_abs, refl, sym, ap, ◌∙◌, arith, lit<, lit≤, append_assoc}
use Rattle.std.specs.Prelude.{unwrap_or}
use Rattle.std.specs.List.{find, list_all, list_any, count_by}
use Rattle.std.specs.Fmt.{decimal, sign_text}
use Rattle.std.proofs.lemmas.Bool.Decides.{nat_tests}
use Rattle.std.proofs.lemmas.Fmt.{decimal_by_steps_wide}
use Rattle.std.proofs.lemmas.Int.{unsigned_abs-mul}
use Rattle.std.proofs.lemmas.List.{reverse-append}
use Rattle.std.proofs.lemmas.List.Folds.{list_all-append, list_any-append}
use Rattle.std.proofs.lemmas.List.Sums.{sum_by-cons, sum_by-append}
use Rattle.std.proofs.lemmas.Nat.{mod_below}
use Rattle.std.proofs.lemmas.Str.{encode_ascii}
use Rattle.std.proofs.Math.Nat.{div-le_self, pow-le-pow_right}
use Rattle.std.proofs.Math.IntN.{pos-*ℤ-pos}
use Rattle.hl_num.specs.declared.printing.Shape.{Shape}
use Rattle.hl_num.specs.declared.reading.Number.{Number}
use Rattle.hl_num.specs.Decimal.{Decimal, units_of}
use Rattle.hl_num.specs.Rounding.{half_even}
use Rattle.hl_num.specs.Printing.{ends_group, mark_text, grouped, separator, zero_padded, printed_number, printed_scaled}
use Rattle.hl_num.specs.Reading.{is_digit, is_mark, other_mark, is_number_byte, undecided_mark, kept_mark, number_of, number_with, reading}
use Rattle.hl_num.proofs.ReadBackLaws.{number_of-printed, printed_number-sign}
use Rattle.hl_num.proofs.RoundingLemmas.{half_even-mul, pow_ten_positive}
use Rattle.entry_reader.proofs.Both.{both_true}
use Rattle.entry_reader.specs.Amounts.{signed}
use Rattle.entry_reader.specs.Lines.{first_is}

-- ---- digits

digit-mark : (b : ℕ) → is_digit b ≡ true → is_mark b ≡ false
digit-mark b h = grind (arith, nat_tests)

digit-byte : (b : ℕ) → is_digit b ≡ true → is_number_byte b ≡ true
digit-byte b h = rw h refl

digit-point : (b : ℕ) → is_digit b ≡ true → (b == 46) ≡ false
digit-point b h = grind (arith, nat_tests)

digit_of : (k : ℕ) → k < 10 → is_digit (48 + k) ≡ true
digit_of k h = grind (arith, nat_tests)

decimal-digits : (n : ℕ) → n < 10 ^ 64 → list_all is_digit (decimal n) ≡ true
decimal-digits n small =
    decimal_by_steps_wide (λ (_ : ℕ) (ds : List ℕ). list_all is_digit ds ≡ true)
    (λ k one. rw (digit_of k one) refl)
    (λ k ds ten h. list_all-append is_digit ds ((48 + k % 10) ∷ []) ∙ rw (h, digit_of (k % 10) (omega arith)) refl)
    n small

decimal-some : (n : ℕ) → n < 10 ^ 64 → list_any is_digit (decimal n) ≡ true
decimal-some n small =
    decimal_by_steps_wide (λ (_ : ℕ) (ds : List ℕ). list_any is_digit ds ≡ true)
    (λ k one. rw (digit_of k one) refl)
    (λ k ds ten h. list_any-append is_digit ds ((48 + k % 10) ∷ []) ∙ rw h refl)
    n small

zeros-digits : (k : ℕ) → list_all is_digit (replicate k 48) ≡ true
zeros-digits zero = refl
zeros-digits (suc k) = zeros-digits k

padded-digits : (p f : ℕ) → f < 10 ^ 64 → list_all is_digit (zero_padded p f) ≡ true
padded-digits p f small =
    let zeros = zeros-digits (p - length (decimal f)) in
    let digits = decimal-digits f small in
    list_all-append is_digit (replicate (p - length (decimal f)) 48) (decimal f) ∙ rw (zeros, digits) refl

bytes-digits : (ds : List ℕ) → list_all is_digit ds ≡ true → list_all is_number_byte ds ≡ true
bytes-digits [] h = refl
bytes-digits (d ∷ ds) h =
    let all = both_true (is_digit d) (list_all is_digit ds) h in
    let here = digit-byte d all.0 in
    let more = bytes-digits ds all.1 in
    rw (here, more) refl

reverse-digits : (ds : List ℕ) → list_all is_digit ds ≡ true → list_all is_digit (reverse ds) ≡ true
reverse-digits [] h = refl
reverse-digits (d ∷ ds) h =
    let all = both_true (is_digit d) (list_all is_digit ds) h in
    ap (list_all is_digit) (reverse-append (d ∷ []) ds)
    ∙ list_all-append is_digit (reverse ds) (d ∷ [])
    ∙ rw (reverse-digits ds all.1, all.0) refl

-- ---- what is printed

-- a decimal mark, and no groups
abbrev pub marked : ℕ → Shape
marked m = record { mark = m; group = None; first = 3; rest = 3 }

-- the digits before the mark, and the mark with the decimals behind it, where there are any
abbrev pub decimals_part : ℕ → ℕ → ℕ → List ℕ
decimals_part m n p = cond (nat_lt 0 p) (m ∷ zero_padded p (n % 10 ^ p)) []

abbrev pub digits : ℕ → ℕ → ℕ → List ℕ
digits m n p = decimal (n / 10 ^ p) ++ decimals_part m n p

no_separator : (b : Bool) → (if b then mark_text None else []) ≡ []
no_separator true = refl
no_separator false = refl

grouped-none : (shape : Shape) (ds : List ℕ) → shape.group ≡ None → grouped shape ds ≡ ds
grouped-none shape [] h = refl
grouped-none shape (d ∷ ds) h =
    let apart : separator shape (length ds) ≡ [] = rw h (no_separator (ends_group shape (length ds))) in
    let more = grouped-none shape ds h in
    rw (apart, more) refl

mark-ascii : (mark : ℕ) → is_mark mark ≡ true → mark < 128
mark-ascii mark m = grind (arith, nat_tests)

printed : (m n p : ℕ) → is_mark m ≡ true → printed_scaled false n p (marked m) ≡ digits m n p
unfolding printed_scaled
printed m n p is =
    let whole = grouped-none (marked m) (decimal (n / 10 ^ p)) refl in
    let text = encode_ascii m (mark-ascii m is) in
    rw (whole, text) refl

not_negative : (n : ℕ) → int_lt (pos n) (pos 0) ≡ false
not_negative n = grind (arith, nat_tests)

negative : (n : ℕ) → 0 < n → int_lt (neg_ℤ (pos n)) (pos 0) ≡ true
negative zero h = absurd (omega arith)
negative (suc n) h = refl

some_product : (j k : ℕ) → 0 < k → 0 < suc j * k
some_product j k h = omega arith

above : (j : ℕ) → nat_lt 0 (suc j) ≡ true
above j = grind (arith, nat_tests)

sign_same : (z : ℤ) (k : ℕ) → 0 < k → (int_lt (z *ℤ pos k) (pos 0) && nat_lt 0 (unsigned_abs z)) ≡ int_lt z (pos 0)
sign_same (pos n) k h = ap (λ (y : ℤ). int_lt y (pos 0) && nat_lt 0 n) (pos-*ℤ-pos n k) ∙ ap (λ (b : Bool). b && nat_lt 0 n) (not_negative (n * k)) ∙ sym (not_negative n)
sign_same (negsuc j) k h = ap (λ (b : Bool). b && nat_lt 0 (suc j)) (negative (suc j * k) (some_product j k h)) ∙ above j

-- a number as it is printed with its own decimals
pub printed_value : (v : Decimal) (m : ℕ) → is_mark m ≡ true → printed_number v v.places (marked m) ≡ sign_text (int_lt v.mantissa (pos 0)) ++ digits m (unsigned_abs v.mantissa) v.places
printed_value v m is =
    let k = 10 ^ (36 - v.places) in
    let n = unsigned_abs v.mantissa in
    let some : 0 < k = pow_ten_positive (36 - v.places) in
    let counted : half_even (unsigned_abs (units_of v)) k ≡ n = ap (λ (x : ℕ). half_even x k) (unsigned_abs-mul v.mantissa (pos k)) ∙ half_even-mul n k some in
    printed_number-sign v v.places (marked m)
    ∙ ap (λ (c : ℕ). sign_text (int_lt (units_of v) (pos 0) && nat_lt 0 c) ++ printed_scaled false c v.places (marked m)) counted
    ∙ ap (λ (b : Bool). sign_text b ++ printed_scaled false n v.places (marked m)) (sign_same v.mantissa k some)
    ∙ ap (λ (t : List ℕ). sign_text (int_lt v.mantissa (pos 0)) ++ t) (printed m n v.places is)

-- ---- what is read

find-digits : (ds : List ℕ) → list_all is_digit ds ≡ true → find is_mark ds ≡ None
find-digits [] h = refl
find-digits (d ∷ ds) h =
    let all = both_true (is_digit d) (list_all is_digit ds) h in
    let here = digit-mark d all.0 in
    let more = find-digits ds all.1 in
    rw (here, more) refl

find-point : (ds rest : List ℕ) → list_all is_digit ds ≡ true → find is_mark (ds ++ 46 ∷ rest) ≡ Some 46
find-point [] rest h = refl
find-point (d ∷ ds) rest h =
    let all = both_true (is_digit d) (list_all is_digit ds) h in
    let here = digit-mark d all.0 in
    let more = find-point ds rest all.1 in
    rw (here, more) refl

any-point : (ds : List ℕ) → list_all is_digit ds ≡ true → list_any (λ b. b == 46) ds ≡ false
any-point [] h = refl
any-point (d ∷ ds) h =
    let all = both_true (is_digit d) (list_all is_digit ds) h in
    let here = digit-point d all.0 in
    let more = any-point ds all.1 in
    rw (here, more) refl

abbrev point_count : List ℕ → ℕ
point_count text = count_by (λ b. b == 46) text

count-digits : (ds : List ℕ) → list_all is_digit ds ≡ true → point_count ds ≡ 0
count-digits [] h = refl
count-digits (d ∷ ds) h =
    let all = both_true (is_digit d) (list_all is_digit ds) h in
    let here = digit-point d all.0 in
    let more = count-digits ds all.1 in
    sum_by-cons (λ b. cond (b == 46) 1 0) d ds ∙ rw (here, more) refl

one_point : (whole decs : List ℕ) → list_all is_digit whole ≡ true → list_all is_digit decs ≡ true → point_count (whole ++ 46 ∷ decs) ≡ 1
one_point whole decs w d =
    let none = count-digits whole w in
    let rest = count-digits decs d in
    sum_by-append (λ b. cond (b == 46) 1 0) whole (46 ∷ decs)
    ∙ ap (λ (k : ℕ). point_count whole + k) (sum_by-cons (λ b. cond (b == 46) 1 0) 46 decs)
    ∙ rw (none, rest) refl

or_true : (a : Bool) → (a || true) ≡ true
or_true true = refl
or_true false = refl

kept : (text : List ℕ) → point_count text ≡ 1 → kept_mark text (Some 46) ≡ Some 46
kept text one =
    let test : nat_lt (count_by (λ b. b == 46) text) 2 ≡ true = rw one refl in
    ap (λ (t : Bool). cond {A = Option ℕ} (list_any (λ b. b == other_mark 46) text || t) (Some 46) None) test
    ∙ ap (λ (t : Bool). cond {A = Option ℕ} t (Some 46) None) (or_true (list_any (λ b. b == other_mark 46) text))

undecided : (whole decs : List ℕ) → list_all is_digit whole ≡ true → list_all is_digit decs ≡ true → undecided_mark (whole ++ 46 ∷ decs) ≡ Some 46
undecided whole decs w d =
    let text = whole ++ 46 ∷ decs in
    let found : find is_mark (reverse text) ≡ Some 46 =
    ap (find is_mark) (reverse-append whole (46 ∷ decs)
    ∙ ap (λ (xs : List ℕ). xs ++ reverse whole) (reverse-append (46 ∷ []) decs)
    ∙ append_assoc (reverse decs) (46 ∷ []) (reverse whole))
    ∙ find-point (reverse decs) (reverse whole) (reverse-digits decs d) in
    ap (kept_mark text) found ∙ kept text (one_point whole decs w d)

stands : (whole decs : List ℕ) → list_any (λ b. b == 46) (whole ++ 46 ∷ decs) ≡ true
stands whole decs = list_any-append (λ b. b == 46) whole (46 ∷ decs) ∙ or_true (list_any (λ b. b == 46) whole)

-- where no mark is decided, a point is found as it would be if it were
unmarked_both : (whole decs : List ℕ) → list_all is_digit whole ≡ true → list_all is_digit decs ≡ true
    → number_of (whole ++ 46 ∷ decs) None ≡ number_of (whole ++ 46 ∷ decs) (Some 46)
unmarked_both whole decs w d =
    let text = whole ++ 46 ∷ decs in
    ap (number_with text) (undecided whole decs w d)
    ∙ sym (ap (λ (t : Bool). number_with text (cond {A = Option ℕ} t (Some 46) None)) (stands whole decs))

unmarked_whole : (ds : List ℕ) → list_all is_digit ds ≡ true → number_of ds None ≡ number_of ds (Some 46)
unmarked_whole ds w =
    ap (λ (m : Option ℕ). number_with ds (kept_mark ds m)) (find-digits (reverse ds) (reverse-digits ds w))
    ∙ sym (ap (λ (t : Bool). number_with ds (cond {A = Option ℕ} t (Some 46) None)) (any-point ds w))

unmarked : (t : Bool) (whole decs : List ℕ) → list_all is_digit whole ≡ true → list_all is_digit decs ≡ true
    → number_of (whole ++ cond t (46 ∷ decs) []) None ≡ number_of (whole ++ cond t (46 ∷ decs) []) (Some 46)
unmarked true whole decs w d = unmarked_both whole decs w d
unmarked false whole decs w d = unmarked_whole (whole ++ []) (list_all-append is_digit whole [] ∙ rw w refl)

-- a number as it is read
abbrev pub number_read : ℕ → ℕ → ℕ → Number
number_read m n p = record { value = record { mantissa = pos n; places = p }; mark = if nat_lt 0 p then Some m else None; group = None; first = 3; rest = 3 }

read_number : (text : List ℕ) (decided : Option ℕ) (number : Number) → number_of text decided ≡ Some number → reading text decided ≡ Ok number
read_number text decided number e = rw (e, reading) refl

wide_of : (n : ℕ) → n < 2 ^ 127 → n < 10 ^ 64
wide_of n small = let room : 2 ^ 127 ≤ 10 ^ 64 = lit≤ tt in omega (arith, room)

whole_small : (n p : ℕ) → n < 2 ^ 127 → n / 10 ^ p < 10 ^ 64
whole_small n p small = let less : n / 10 ^ p ≤ n = div-le_self n (10 ^ p) in wide_of (n / 10 ^ p) (omega (arith, less))

decimals_small : (n p : ℕ) → p ≤ 18 → n % 10 ^ p < 10 ^ 64
decimals_small n p few =
    let some : 0 < 10 ^ p = pow_ten_positive p in
    let rest : n % 10 ^ p < 10 ^ p = mod_below n (10 ^ p) some in
    let less : p ≤ 64 = omega arith in
    let powers : 10 ^ p ≤ 10 ^ 64 = pow-le-pow_right {n = 10} (lit< tt) less in
    omega (arith, rest, powers)

whole_digits : (n p : ℕ) → n < 2 ^ 127 → list_all is_digit (decimal (n / 10 ^ p)) ≡ true
whole_digits n p small = decimal-digits (n / 10 ^ p) (whole_small n p small)

decimals_digits : (n p : ℕ) → p ≤ 18 → list_all is_digit (zero_padded p (n % 10 ^ p)) ≡ true
decimals_digits n p few = padded-digits p (n % 10 ^ p) (decimals_small n p few)

-- what is decided is a mark, where anything is
abbrev pub IsDecided : Option ℕ → Type 0
IsDecided None = Unit {0}
IsDecided (Some m) = is_mark m ≡ true

pub digits_read : (decided : Option ℕ) (n p : ℕ) → IsDecided decided → p ≤ 18 → n < 2 ^ 127 → reading (digits (unwrap_or decided 46) n p) decided ≡ Ok (number_read (unwrap_or decided 46) n p)
digits_read (Some m) n p is few small =
    read_number (digits m n p) (Some m) (number_read m n p)
    (ap (λ (text : List ℕ). number_of text (Some m)) (sym (printed m n p is)) ∙ number_of-printed n p (marked m) few small refl is)
digits_read None n p is few small =
    read_number (digits 46 n p) None (number_read 46 n p)
    (unmarked (nat_lt 0 p) (decimal (n / 10 ^ p)) (zero_padded p (n % 10 ^ p)) (whole_digits n p small) (decimals_digits n p few)
    ∙ ap (λ (text : List ℕ). number_of text (Some 46)) (sym (printed 46 n p refl)) ∙ number_of-printed n p (marked 46) few small refl refl)

pub decided_mark_is : (decided : Option ℕ) → IsDecided decided → is_mark (unwrap_or decided 46) ≡ true
decided_mark_is None is = refl
decided_mark_is (Some m) is = is

-- all its bytes are those of numbers, and the first is a digit
mark_byte : (m : ℕ) → is_mark m ≡ true → is_number_byte m ≡ true
mark_byte m h = ap (λ (t : Bool). is_digit m || t) h ∙ or_true (is_digit m)

decimals_bytes : (t : Bool) (m : ℕ) (decs : List ℕ) → is_mark m ≡ true → list_all is_digit decs ≡ true → list_all is_number_byte (cond t (m ∷ decs) []) ≡ true
decimals_bytes true m decs is d =
    let here = mark_byte m is in
    let more = bytes-digits decs d in
    rw (here, more) refl
decimals_bytes false m decs is d = refl

pub digits_all : (m n p : ℕ) → is_mark m ≡ true → p ≤ 18 → n < 2 ^ 127 → list_all is_number_byte (digits m n p) ≡ true
digits_all m n p is few small =
    let front = bytes-digits (decimal (n / 10 ^ p)) (whole_digits n p small) in
    let back = decimals_bytes (nat_lt 0 p) m (zero_padded p (n % 10 ^ p)) is (decimals_digits n p few) in
    list_all-append is_number_byte (decimal (n / 10 ^ p)) (decimals_part m n p) ∙ rw (front, back) refl

first_of_some : (ds rest : List ℕ) → list_all is_digit ds ≡ true → list_any is_digit ds ≡ true → first_is is_digit (ds ++ rest) ≡ true
first_of_some [] rest all some = absurd cc
first_of_some (d ∷ ds) rest all some = (both_true (is_digit d) (list_all is_digit ds) all).0

pub digits_first : (m n p : ℕ) (rest : List ℕ) → n < 2 ^ 127 → first_is is_digit (digits m n p ++ rest) ≡ true
digits_first m n p rest small =
    ap (first_is is_digit) (append_assoc (decimal (n / 10 ^ p)) (decimals_part m n p) rest)
    ∙ first_of_some (decimal (n / 10 ^ p)) (decimals_part m n p ++ rest) (whole_digits n p small) (decimal-some (n / 10 ^ p) (whole_small n p small))

-- the sign and the digits give the number back
abbrev plain_decimal : ℤ → ℕ → Decimal
plain_decimal z p = record { mantissa = z; places = p }

signed_back : (z : ℤ) (p : ℕ) → signed (int_lt z (pos 0)) (plain_decimal (pos (unsigned_abs z)) p) ≡ plain_decimal z p
signed_back (pos n) p = ap (λ (b : Bool). signed b (plain_decimal (pos n) p)) (not_negative n)
signed_back (negsuc j) p = refl

pub value_back : (v : Decimal) → signed (int_lt v.mantissa (pos 0)) (plain_decimal (pos (unsigned_abs v.mantissa)) v.places) ≡ v
value_back v = signed_back v.mantissa v.places
