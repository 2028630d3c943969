-- A number that is printed without group marks reads back as itself.
use Rattle.std.proofs.Common.{ℕ, zero, suc, pos, ◌≡◌, ◌+◌, ◌-◌, ◌*◌, ◌/◌, ◌%◌, ◌^◌, ◌<◌, ◌≤◌, Bool, true, false, not, nat_lt, nat_le, int_lt, ◌==◌, ◌&&◌, if◌then◌else◌, List, [], ◌∷◌, ◌++◌, length, take, drop, reverse, replicate, Some, None, unsigned_abs, refl, sym, ap, ◌∙◌, arith, lit<, lit≤, append_assoc, append-nil, length-append}
use Rattle.std.specs.List.{filter, find, list_all, list_any, prefix_len}
use Rattle.std.specs.Char.{digit_value}
use Rattle.std.specs.Fmt.{decimal, sign_text}
use Rattle.std.specs.Str.Parse.{digits_value_after}
use Rattle.std.proofs.lemmas.Bool.Decides.{nat_tests}
use Rattle.std.proofs.lemmas.Fmt.{decimal_is_IsNumeral_wide, decimal_by_steps_wide, length-decimal-le_wide}
use Rattle.std.proofs.lemmas.List.{reverse-append, length-replicate}
use Rattle.std.proofs.lemmas.List.Elements.{filter-append}
use Rattle.std.proofs.lemmas.List.Folds.{list_all-append, list_any-append}
use Rattle.std.proofs.lemmas.Nat.{div-add-mod', mod_below, pow-add}
use Rattle.std.proofs.Math.Nat.{mul_assoc, pow-le-pow_right, div-le_self}
use Rattle.std.proofs.Math.Seq.{drop-append_seam, take-append_seam, take-length}
use Rattle.std.proofs.Math.ListN.{drop_of_length-le}
use Rattle.std.proofs.lemmas.Str.{encode_ascii}
use Rattle.hl_num.specs.declared.printing.Shape.{Shape}
use Rattle.hl_num.specs.Decimal.{Decimal, units_of}
use Rattle.hl_num.specs.Rounding.{half_even}
use Rattle.hl_num.specs.ReadBack.{ReadsBack, rounded_magnitude}
use Rattle.hl_num.specs.Printing.{ends_group, mark_text, grouped, separator, decimals, zero_padded, printed_number, printed_units, printed_scaled}
use Rattle.hl_num.specs.Reading.{is_digit, is_mark, is_number_byte, mantissa_of, number_of, whole_len, is_written, sizes_between, group_sizes}
use Rattle.hl_num.proofs.ReadingLemmas.{after-append, number_with-some}
use Rattle.hl_num.proofs.RoundingLemmas.{pow_ten_positive}

both_true : (a b : Bool) → (a && b) ≡ true → (a ≡ true) × (b ≡ true)
both_true true b e = (refl, e)
both_true false b e = absurd (never e)
  where
    never : false ≡ true → ⊥
    never h = cc

-- what holds of digits
digit-mark : (b : ℕ) → is_digit b ≡ true → is_mark b ≡ false
digit-mark b h = grind (arith, nat_tests)

digit-byte : (b : ℕ) → is_digit b ≡ true → is_number_byte b ≡ true
digit-byte b h = rw h refl

digit-other : (b mark : ℕ) → is_mark mark ≡ true → is_digit b ≡ true → (b == mark) ≡ false
digit-other b mark m h = grind (arith, nat_tests)

mark-digit : (mark : ℕ) → is_mark mark ≡ true → is_digit mark ≡ false
mark-digit mark m = grind (arith, nat_tests)

-- digits pass the filter, and no mark is among them
filter-digits : (ds : List ℕ) → list_all is_digit ds ≡ true → filter is_digit ds ≡ ds
filter-digits [] h = refl
filter-digits (d ∷ ds) h = let all = both_true (is_digit d) (list_all is_digit ds) h in let first = all.0 in rw first (ap (λ (xs : List ℕ). d ∷ xs) (filter-digits ds all.1))

bytes-digits : (ds : List ℕ) → list_all is_digit ds ≡ true → list_all is_number_byte ds ≡ true
bytes-digits [] h = refl
bytes-digits (d ∷ ds) h = let all = both_true (is_digit d) (list_all is_digit ds) h in rw (digit-byte d all.0) (bytes-digits ds all.1)

find-digits : (ds : List ℕ) → list_all is_digit ds ≡ true → find is_mark ds ≡ None
find-digits [] h = refl
find-digits (d ∷ ds) h = let all = both_true (is_digit d) (list_all is_digit ds) h in rw (digit-mark d all.0) (find-digits ds all.1)

none-digits : (mark : ℕ) (ds : List ℕ) → is_mark mark ≡ true → list_all is_digit ds ≡ true → list_any (λ b. b == mark) ds ≡ false
none-digits mark [] m h = refl
none-digits mark (d ∷ ds) m h = let all = both_true (is_digit d) (list_all is_digit ds) h in rw (digit-other d mark m all.0) (none-digits mark ds m all.1)

eq-self : (b : ℕ) → (b == b) ≡ true
eq-self b = grind (arith, nat_tests)

prefix-digits : (mark : ℕ) (ds rest : List ℕ) → is_mark mark ≡ true → list_all is_digit ds ≡ true → prefix_len (λ b. not (b == mark)) (ds ++ mark ∷ rest) ≡ length ds
prefix-digits mark [] rest m h = rw (eq-self mark) refl
prefix-digits mark (d ∷ ds) rest m h =
    let all = both_true (is_digit d) (list_all is_digit ds) h in
    let apart = digit-other d mark m all.0 in
    let more = prefix-digits mark ds rest m all.1 in
    rw (apart, more) (omega arith)

sizes-digits : (ds : List ℕ) → list_all is_digit ds ≡ true → sizes_between ds ≡ length ds ∷ []
sizes-digits [] h = refl
sizes-digits (d ∷ ds) h =
    let all = both_true (is_digit d) (list_all is_digit ds) h in
    rw (digit-mark d all.0, sizes-digits ds all.1) (ap (λ (k : ℕ). k ∷ []) (omega arith))

reverse-digits : (ds : List ℕ) → list_all is_digit ds ≡ true → list_all is_digit (reverse ds) ≡ true
reverse-digits [] h = refl
reverse-digits (d ∷ ds) h =
    let all = both_true (is_digit d) (list_all is_digit ds) h in
    ap (list_all is_digit) (reverse-append (d ∷ []) ds)
    ∙ list_all-append is_digit (reverse ds) (d ∷ [])
    ∙ rw (reverse-digits ds all.1, all.0) refl

-- what is written of a number are digits of its value
decimal-digits : (n : ℕ) → n < 10 ^ 64 → list_all is_digit (decimal n) ≡ true
decimal-digits n small =
    decimal_by_steps_wide (λ (_ : ℕ) (ds : List ℕ). list_all is_digit ds ≡ true)
    (λ k one. rw (digit_byte k one) refl)
    (λ k ds ten h. list_all-append is_digit ds ((48 + k % 10) ∷ []) ∙ rw (h, digit_byte (k % 10) (omega arith)) refl)
    n small
  where
    digit_byte : (k : ℕ) → k < 10 → is_digit (48 + k) ≡ true
    digit_byte k h = grind (arith, nat_tests)

zeros-digits : (k : ℕ) → list_all is_digit (replicate k 48) ≡ true
zeros-digits zero = refl
zeros-digits (suc k) = zeros-digits k

ten-suc : (k : ℕ) → 10 ^ suc k ≡ 10 * 10 ^ k
ten-suc k = let next : suc k ≡ 1 + k = omega arith in ap (λ (e : ℕ). 10 ^ e) next ∙ pow-add 10 1 k

-- digits after a value
after-digits : (n : ℕ) (ds : List ℕ) → digits_value_after 10 n ds ≡ n * 10 ^ length ds + digits_value_after 10 0 ds
after-digits n [] = omega arith
after-digits n (d ∷ ds) =
    let own = after-digits (n * 10 + digit_value d) ds in
    let alone = after-digits (0 * 10 + digit_value d) ds in
    omega (arith, own, alone, ap (λ (k : ℕ). n * k) (ten-suc (length ds)))

zeros-value : (n k : ℕ) → digits_value_after 10 n (replicate k 48) ≡ n * 10 ^ k
zeros-value n zero = omega arith
zeros-value n (suc k) = omega (arith, zeros-value (n * 10 + 0) k, ap (λ (x : ℕ). n * x) (ten-suc k))

-- a number of so many decimals can be written
small-decimals : (p f : ℕ) → p ≤ 36 → f < 10 ^ p → f < 10 ^ 64
small-decimals p f few small =
    let less : p ≤ 64 = omega arith in
    let powers : 10 ^ p ≤ 10 ^ 64 = pow-le-pow_right {n = 10} (lit< tt) less in
    omega (arith, powers)

-- the decimals have their width, are digits, and stand for their number
fill : ℕ → List ℕ
fill k = replicate k 48

fill-length : (k : ℕ) → length (fill k) ≡ k
unfolding fill
fill-length k = length-replicate {A = ℕ} k 48

padded-length : (p f : ℕ) → 0 < p → p ≤ 36 → f < 10 ^ p → length (zero_padded p f) ≡ p
unfolding fill
padded-length p f some few small =
    let short : length (decimal f) ≤ p = length-decimal-le_wide p f some small (small-decimals p f few small) in
    length-append (fill (p - length (decimal f))) (decimal f)
    ∙ ap (λ (k : ℕ). k + length (decimal f)) (fill-length (p - length (decimal f)))
    ∙ rejoined (length (decimal f)) p short
  where
    rejoined : (k q : ℕ) → k ≤ q → (q - k) + k ≡ q
    rejoined k q h = omega arith

padded-digits : (p f : ℕ) → f < 10 ^ 64 → list_all is_digit (zero_padded p f) ≡ true
padded-digits p f small =
    let zeros = zeros-digits (p - length (decimal f)) in
    let digits = decimal-digits f small in
    list_all-append is_digit (replicate (p - length (decimal f)) 48) (decimal f) ∙ rw (zeros, digits) refl

decimal-value : (n : ℕ) → n < 10 ^ 64 → digits_value_after 10 0 (decimal n) ≡ n
decimal-value n small = (decimal_is_IsNumeral_wide n small).1

padded-value : (n p f : ℕ) → 0 < p → p ≤ 36 → f < 10 ^ p → digits_value_after 10 n (zero_padded p f) ≡ n * 10 ^ p + f
padded-value n p f some few small =
    let wide = small-decimals p f few small in
    let len = length (decimal f) in
    let short : len ≤ p = length-decimal-le_wide p f some small wide in
    let whole : (p - len) + len ≡ p = rejoined len p short in
    let power : 10 ^ (p - len) * 10 ^ len ≡ 10 ^ p = sym (pow-add 10 (p - len) len) ∙ ap (λ (e : ℕ). 10 ^ e) whole in
    after-append n (replicate (p - len) 48) (decimal f)
    ∙ ap (λ (x : ℕ). digits_value_after 10 x (decimal f)) (zeros-value n (p - len))
    ∙ after-digits (n * 10 ^ (p - len)) (decimal f)
    ∙ ap (λ (x : ℕ). n * 10 ^ (p - len) * 10 ^ len + x) (decimal-value f wide)
    ∙ ap (λ (x : ℕ). x + f) (mul_assoc n (10 ^ (p - len)) (10 ^ len) ∙ ap (λ (x : ℕ). n * x) power)
  where
    rejoined : (k q : ℕ) → k ≤ q → (q - k) + k ≡ q
    rejoined k q h = omega arith

-- a number has a digit
decimal-some : (n : ℕ) → n < 10 ^ 64 → list_any is_digit (decimal n) ≡ true
decimal-some n small =
    decimal_by_steps_wide (λ (_ : ℕ) (ds : List ℕ). list_any is_digit ds ≡ true)
    (λ k one. rw (digit_byte k one) refl)
    (λ k ds ten h. list_any-append is_digit ds ((48 + k % 10) ∷ []) ∙ rw h refl)
    n small
  where
    digit_byte : (k : ℕ) → k < 10 → is_digit (48 + k) ≡ true
    digit_byte k h = grind (arith, nat_tests)

-- without a group mark the digits stand as they are
no_separator : (b : Bool) → (if b then mark_text None else []) ≡ []
no_separator true = refl
no_separator false = refl

grouped-none : (shape : Shape) (ds : List ℕ) → shape.group ≡ None → grouped shape ds ≡ ds
grouped-none shape [] h = refl
grouped-none shape (d ∷ ds) h =
    let apart : separator shape (length ds) ≡ [] = rw h (no_separator (ends_group shape (length ds))) in
    let more = grouped-none shape ds h in
    rw (apart, more) refl

-- the sizes of digits alone
groups-digits : (ds : List ℕ) → list_all is_digit ds ≡ true → group_sizes ds ≡ length (reverse ds) ∷ []
groups-digits ds h = sizes-digits (reverse ds) (reverse-digits ds h)

mark-byte : (mark : ℕ) → is_mark mark ≡ true → is_number_byte mark ≡ true
mark-byte mark m = rw (mark-digit mark m, m) refl

-- digits round a mark, read with it
reads-marked : (whole decimals : List ℕ) (mark p : ℕ) → is_mark mark ≡ true → list_all is_digit whole ≡ true → list_any is_digit whole ≡ true → list_all is_digit decimals ≡ true
    → length decimals ≡ p → p ≤ 18 → nat_lt (digits_value_after 10 0 (whole ++ decimals)) (2 ^ 127) ≡ true
    → number_of (whole ++ mark ∷ decimals) (Some mark) ≡ Some (record {
      value = record { mantissa = pos (digits_value_after 10 0 (whole ++ decimals)); places = p };
      mark = Some mark;
      group = None;
      first = 3;
      rest = 3;
    })
reads-marked whole decimals mark p m ds some es len few small =
    let text = whole ++ mark ∷ decimals in
    let holds : list_any (λ b. b == mark) text ≡ true =
    list_any-append (λ b. b == mark) whole (mark ∷ decimals) ∙ rw (none-digits mark whole m ds, eq-self mark) refl in
    let place : whole_len text (Some mark) ≡ length whole = prefix-digits mark whole decimals m ds in
    let is_whole : whole ≡ take (whole_len text (Some mark)) text = sym (ap (λ (k : ℕ). take k text) place ∙ take-append_seam whole (mark ∷ decimals)) in
    let is_decimals : decimals ≡ drop (whole_len text (Some mark) + 1) text = sym (ap (λ (k : ℕ). drop (k + 1) text) place ∙ past_seam whole mark decimals) in
    let bytes : list_all is_number_byte text ≡ true =
    list_all-append is_number_byte whole (mark ∷ decimals) ∙ rw (bytes-digits whole ds, mark-byte mark m, bytes-digits decimals es) refl in
    let digit : list_any is_digit text ≡ true = list_any-append is_digit whole (mark ∷ decimals) ∙ rw some refl in
    let short : nat_le (length decimals) 18 ≡ true = rw len (at_most p 18 few) in
    let sizes = groups-digits whole ds in
    let written : is_written text whole decimals ≡ true = rw (bytes, digit, es, short, sizes) refl in
    let kept : filter is_digit text ≡ whole ++ decimals =
    filter-append is_digit whole (mark ∷ decimals) ∙ rw (filter-digits whole ds, mark-digit mark m, filter-digits decimals es) refl in
    let value : mantissa_of text ≡ digits_value_after 10 0 (whole ++ decimals) = ap (λ (xs : List ℕ). digits_value_after 10 0 xs) kept in
    let fits : nat_lt (mantissa_of text) (2 ^ 127) ≡ true = rw value small in
    rw holds (number_with-some text whole decimals (Some mark) is_whole is_decimals written fits ∙ rw (value, len, find-digits whole ds, sizes) refl)
  where
    past_seam : (xs : List ℕ) (y : ℕ) (ys : List ℕ) → drop (length xs + 1) (xs ++ y ∷ ys) ≡ ys
    past_seam xs y ys =
        ap (λ (k : ℕ). drop k (xs ++ y ∷ ys)) (sym (length-append xs (y ∷ [])))
        ∙ ap (λ (zs : List ℕ). drop (length (xs ++ y ∷ [])) zs) (sym (append_assoc xs (y ∷ []) ys))
        ∙ drop-append_seam (xs ++ y ∷ []) ys

    at_most : (x y : ℕ) → x ≤ y → nat_le x y ≡ true
    at_most x y h = grind (arith, nat_tests)

-- digits alone
reads-unmarked : (whole : List ℕ) (mark : ℕ) → is_mark mark ≡ true → list_all is_digit whole ≡ true → list_any is_digit whole ≡ true
    → nat_lt (digits_value_after 10 0 whole) (2 ^ 127) ≡ true
    → number_of whole (Some mark) ≡ Some (record {
      value = record { mantissa = pos (digits_value_after 10 0 whole); places = 0 };
      mark = None;
      group = None;
      first = 3;
      rest = 3;
    })
reads-unmarked whole mark m ds some small =
    let none : list_any (λ b. b == mark) whole ≡ false = none-digits mark whole m ds in
    let is_whole : whole ≡ take (length whole) whole = sym (take-length whole) in
    let is_decimals : [] ≡ drop (length whole + 1) whole = sym (drop_of_length-le whole (omega arith)) in
    let bytes = bytes-digits whole ds in
    let sizes = groups-digits whole ds in
    let written : is_written whole whole [] ≡ true = rw (bytes, some, sizes) refl in
    let value : mantissa_of whole ≡ digits_value_after 10 0 whole = ap (λ (xs : List ℕ). digits_value_after 10 0 xs) (filter-digits whole ds) in
    let fits : nat_lt (mantissa_of whole) (2 ^ 127) ≡ true = rw value small in
    rw none (number_with-some whole whole [] None is_whole is_decimals written fits ∙ rw (value, find-digits whole ds, sizes) refl)

mark-ascii : (mark : ℕ) → is_mark mark ≡ true → mark < 128
mark-ascii mark m = grind (arith, nat_tests)

test-less : (x y : ℕ) → x < y → nat_lt x y ≡ true
test-less x y h = grind (arith, nat_tests)

-- the text of a number with places, and without
printed-marked : (n p : ℕ) (shape : Shape) → 0 < p → shape.group ≡ None → is_mark shape.mark ≡ true
    → printed_scaled false n p shape ≡ decimal (n / 10 ^ p) ++ shape.mark ∷ zero_padded p (n % 10 ^ p)
unfolding printed_scaled
printed-marked n p shape some none m =
    let whole = grouped-none shape (decimal (n / 10 ^ p)) none in
    let text = encode_ascii shape.mark (mark-ascii shape.mark m) in
    let test = test-less 0 p some in
    rw (whole, test, text) refl

printed-unmarked : (n : ℕ) (shape : Shape) → shape.group ≡ None → printed_scaled false n 0 shape ≡ decimal n
unfolding printed_scaled
printed-unmarked n shape none =
    let one : n / 10 ^ 0 ≡ n = omega arith in
    append-nil (grouped shape (decimal (n / 10 ^ 0))) ∙ grouped-none shape (decimal (n / 10 ^ 0)) none ∙ ap decimal one

-- a number that is printed without group marks reads back, with the mark that it is printed with
pub number_of-printed : (n places : ℕ) (shape : Shape) → places ≤ 18 → n < 2 ^ 127 → shape.group ≡ None → is_mark shape.mark ≡ true
    → number_of (printed_scaled false n places shape) (Some shape.mark) ≡ Some (record {
      value = record { mantissa = pos n; places = places };
      mark = if nat_lt 0 places then Some shape.mark else None;
      group = None;
      first = 3;
      rest = 3;
    })
number_of-printed n zero shape few small none m =
    let room : 2 ^ 127 ≤ 10 ^ 64 = lit≤ tt in
    let wide : n < 10 ^ 64 = omega (arith, room) in
    let value = decimal-value n wide in
    let fits : nat_lt (digits_value_after 10 0 (decimal n)) (2 ^ 127) ≡ true = rw value (test-less n (2 ^ 127) small) in
    rw (printed-unmarked n shape none)
    (reads-unmarked (decimal n) shape.mark m (decimal-digits n wide) (decimal-some n wide) fits ∙ rw value refl)
number_of-printed n (suc q) shape few small none m =
    let p = suc q in
    let room : 2 ^ 127 ≤ 10 ^ 64 = lit≤ tt in
    let above = pow_ten_positive p in
    let rest : n % 10 ^ p < 10 ^ p = mod_below n (10 ^ p) above in
    let less : n / 10 ^ p ≤ n = div-le_self n (10 ^ p) in
    let wide : n / 10 ^ p < 10 ^ 64 = omega (arith, room) in
    let places : p ≤ 36 = omega arith in
    let some : 0 < p = omega arith in
    let value : digits_value_after 10 0 (decimal (n / 10 ^ p) ++ zero_padded p (n % 10 ^ p)) ≡ n =
    after-append 0 (decimal (n / 10 ^ p)) (zero_padded p (n % 10 ^ p))
    ∙ ap (λ (x : ℕ). digits_value_after 10 x (zero_padded p (n % 10 ^ p))) (decimal-value (n / 10 ^ p) wide)
    ∙ padded-value (n / 10 ^ p) p (n % 10 ^ p) some places rest
    ∙ div-add-mod' n (10 ^ p) in
    let fits : nat_lt (digits_value_after 10 0 (decimal (n / 10 ^ p) ++ zero_padded p (n % 10 ^ p))) (2 ^ 127) ≡ true = rw value (test-less n (2 ^ 127) small) in
    let test = test-less 0 p some in
    rw (printed-marked n p shape some none m)
    (reads-marked (decimal (n / 10 ^ p)) (zero_padded p (n % 10 ^ p)) shape.mark p m (decimal-digits (n / 10 ^ p) wide) (decimal-some (n / 10 ^ p) wide)
    (padded-digits p (n % 10 ^ p) (small-decimals p (n % 10 ^ p) places rest)) (padded-length p (n % 10 ^ p) some places rest) few fits
    ∙ rw (value, test) refl)

-- the printed number is the rounded magnitude, after a minus where it is below zero
pub printed_number-sign : (v : Decimal) (places : ℕ) (shape : Shape)
    → printed_number v places shape ≡ sign_text (int_lt (units_of v) (pos 0) && nat_lt 0 (half_even (unsigned_abs (units_of v)) (10 ^ (36 - places)))) ++ printed_scaled false (half_even (unsigned_abs (units_of v)) (10 ^ (36 - places))) places shape
unfolding printed_units printed_scaled
printed_number-sign v places shape =
    let n = half_even (unsigned_abs (units_of v)) (10 ^ (36 - places)) in
    append_assoc (sign_text (int_lt (units_of v) (pos 0) && nat_lt 0 n)) (grouped shape (decimal (n / 10 ^ places))) (decimals shape places (n % 10 ^ places))

-- such a text is that of the rounded magnitude, which reads back
pub text_reads_back : (v : Decimal) (places : ℕ) (shape : Shape) (text : List ℕ) → text ≡ printed_number v places shape → ReadsBack v places shape text
unfolding printed_units
text_reads_back v places shape text is positive few small none m =
    rw (is, positive) (number_of-printed (rounded_magnitude v places) places shape few small none m)
