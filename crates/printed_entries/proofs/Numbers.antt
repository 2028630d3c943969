-- A number in any shape reads as it is.
use Rattle.std.proofs.Common.{ℕ, ℤ, zero, suc, pos, negsuc, ◌≡◌, ◌+◌, ◌-◌, ◌*◌, ◌/◌, ◌%◌, ◌^◌, ◌<◌, ◌≤◌, ◌⊎◌, inl, inr, ◌*ℤ◌, neg_ℤ, Bool, true, false, cond, int_lt, ◌==◌, ◌&&◌, ◌||◌, not, if◌then◌else◌, List, [], ◌∷◌, ◌++◌, length, take, drop, reverse, replicate, Option, Some, None, Ok, unsigned_abs, refl, sym, ap, ◌∙◌, arith, lit<, lit≤, append_assoc, append-nil, length-append}
use Rattle.std.specs.Prelude.{nat_le, nat_lt, encode_utf8}
use Rattle.std.specs.Fmt.{decimal, sign_text}
use Rattle.std.specs.List.{count_by, filter, find, list_all, list_any, prefix_len}
use Rattle.std.specs.Str.Parse.{digits_value}
use Rattle.std.proofs.lemmas.Bool.{eqb-true, false≢true}
use Rattle.std.proofs.lemmas.Bool.Decides.{nat_tests}
use Rattle.std.proofs.lemmas.Fmt.{decimal_by_steps_wide, length-decimal-le_wide}
use Rattle.std.proofs.lemmas.Int.{unsigned_abs-mul}
use Rattle.std.proofs.lemmas.List.{length-replicate, reverse-append}
use Rattle.std.proofs.lemmas.List.Elements.{filter-append}
use Rattle.std.proofs.lemmas.List.Folds.{list_all-append, list_any-append}
use Rattle.std.proofs.lemmas.List.Sums.{sum_by-append, sum_by-cons}
use Rattle.std.proofs.lemmas.Nat.{mod_below}
use Rattle.std.proofs.lemmas.Str.{encode_ascii}
use Rattle.std.proofs.Math.IntN.{pos-*ℤ-pos}
use Rattle.std.proofs.Math.ListN.{drop_of_length-le}
use Rattle.std.proofs.Math.Nat.{div-le_self, pow-le-pow_right}
use Rattle.std.proofs.Math.Seq.{drop-append_seam, take-append_seam, take-length}
use Rattle.hl_num.specs.declared.printing.Shape.{Shape}
use Rattle.hl_num.specs.declared.reading.Number.{Number}
use Rattle.hl_num.specs.Decimal.{Decimal, units_of}
use Rattle.hl_num.specs.Printing.{ends_group, grouped, mark_text, printed_number, printed_scaled, separator, zero_padded}
use Rattle.hl_num.specs.Reading.{are_groups, decimal_mark, first_size, group_sizes, is_digit, is_mark, is_number_byte, is_written, kept_mark, mantissa_of, number_of, number_with, other_mark, reading, rest_size, whole_len}
use Rattle.hl_num.specs.Rounding.{half_even}
use Rattle.hl_num.proofs.ReadBackLaws.{number_of-printed, printed_number-sign}
use Rattle.hl_num.proofs.ReadingLemmas.{number_with-some}
use Rattle.hl_num.proofs.RoundingLemmas.{half_even-mul, pow_ten_positive}
use Rattle.book.specs.declared.amount.Written.{Written}
use Rattle.book.specs.Printed.{mark_of, number_shape}
use Rattle.entry_reader.proofs.Both.{both_true}
use Rattle.entry_reader.specs.Lines.{first_is}
use Rattle.journal_printer.specs.Amounts.{has_group_mark, last_mark, number_text}
use Rattle.printed_entries.specs.Shapes.{IsApart, IsOf, IsShape}
use Rattle.written_logs.proofs.Bytes.{all_also, not_false, prefix_stops}
use Rattle.printed_entries.proofs.Groups.{IsGrouped, are_grouped, digit_mark, grouped_is, is_part, mark_digit}

-- ---- bytes

which_mark : (m : ℕ) → is_mark m ≡ true → (m ≡ 46) ⊎ (m ≡ 44)
which_mark m h = by (m == 46) (m == 44) refl refl h
  where
    by : (s t : Bool) → (m == 46) ≡ s → (m == 44) ≡ t → (s || t) ≡ true → (m ≡ 46) ⊎ (m ≡ 44)
    by true t e f h = inl (eqb-true m 46 e)
    by false true e f h = inr (eqb-true m 44 f)
    by false false e f h = absurd (false≢true h)

point_apart : (b : ℕ) → is_part 44 b ≡ true → not (b == 46) ≡ true
point_apart b h = grind (arith, nat_tests)

comma_apart : (b : ℕ) → is_part 46 b ≡ true → not (b == 44) ≡ true
comma_apart b h = grind (arith, nat_tests)

-- no part is the decimal mark
part_apart : (m b : ℕ) → is_mark m ≡ true → is_part (other_mark m) b ≡ true → not (b == m) ≡ true
part_apart m b mark h = by (which_mark m mark)
  where
    by : (m ≡ 46) ⊎ (m ≡ 44) → not (b == m) ≡ true
    by (inl e) = ap (λ (k : ℕ). not (b == k)) e ∙ point_apart b (sym (ap (λ (k : ℕ). is_part (other_mark k) b) e) ∙ h)
    by (inr e) = ap (λ (k : ℕ). not (b == k)) e ∙ comma_apart b (sym (ap (λ (k : ℕ). is_part (other_mark k) b) e) ∙ h)

digit_apart : (m b : ℕ) → is_mark m ≡ true → is_digit b ≡ true → not (b == m) ≡ true
digit_apart m b mark h = part_apart m b mark (ap (λ (t : Bool). t || (b == other_mark m)) h)

other_byte : (m b : ℕ) → is_part (other_mark m) b ≡ true → is_number_byte b ≡ true
other_byte m b h = by (m == 46) h
  where
    point : is_part 44 b ≡ true → is_number_byte b ≡ true
    point h = grind (arith, nat_tests)

    comma : is_part 46 b ≡ true → is_number_byte b ≡ true
    comma h = grind (arith, nat_tests)

    by : (t : Bool) → is_part (cond t 44 46) b ≡ true → is_number_byte b ≡ true
    by true h = point h
    by false h = comma h

or_true : (a : Bool) → (a || true) ≡ true
or_true true = refl
or_true false = refl

mark_byte : (m : ℕ) → is_mark m ≡ true → is_number_byte m ≡ true
mark_byte m h = ap (λ (t : Bool). is_digit m || t) h ∙ or_true (is_digit m)

digit_byte : (b : ℕ) → is_digit b ≡ true → is_number_byte b ≡ true
digit_byte b h = ap (λ (t : Bool). t || is_mark b) h

same_byte : (m : ℕ) → (m == m) ≡ true
same_byte m = grind (arith, nat_tests)

digit_of : (k : ℕ) → k < 10 → is_digit (48 + k) ≡ true
digit_of k h = grind (arith, nat_tests)

-- ---- digits

filter_digits : (ds : List ℕ) → list_all is_digit ds ≡ true → filter is_digit ds ≡ ds
filter_digits [] h = refl
filter_digits (d ∷ ds) h =
    let all = both_true (is_digit d) (list_all is_digit ds) h in
    ap (λ (t : Bool). cond t (d ∷ filter is_digit ds) (filter is_digit ds)) all.0 ∙ ap (λ (xs : List ℕ). d ∷ xs) (filter_digits ds all.1)

reverse_all : (p : ℕ → Bool) (xs : List ℕ) → list_all p xs ≡ true → list_all p (reverse xs) ≡ true
reverse_all p [] h = refl
reverse_all p (x ∷ xs) h =
    let all = both_true (p x) (list_all p xs) h in
    ap (list_all p) (reverse-append (x ∷ []) xs)
    ∙ list_all-append p (reverse xs) (x ∷ [])
    ∙ ap (λ (t : Bool). t && (p x && true)) (reverse_all p xs all.1)
    ∙ ap (λ (t : Bool). t && true) all.0

-- digits and single marks are digits alone where the mark doesn't stand
digits_only : (o : ℕ) (xs : List ℕ) → list_all (is_part o) xs ≡ true → list_any (λ b. b == o) xs ≡ false → list_all is_digit xs ≡ true
digits_only o [] h none = refl
digits_only o (x ∷ xs) h none =
    let all = both_true (is_part o x) (list_all (is_part o) xs) h in
    by (is_digit x) (x == o) (list_any (λ b. b == o) xs) all.0 none (digits_only o xs all.1)
  where
    by : (d t u : Bool) → (d || t) ≡ true → (t || u) ≡ false → (u ≡ false → list_all is_digit xs ≡ true) → (d && list_all is_digit xs) ≡ true
    by true false u e f more = more f
    by true true u e f more = absurd (false≢true (sym f))
    by false true u e f more = absurd (false≢true (sym f))
    by false false u e f more = absurd (false≢true e)

wide_of : (n : ℕ) → n < 2 ^ 127 → n < 10 ^ 64
wide_of n small = let room : 2 ^ 127 ≤ 10 ^ 64 = lit≤ tt in omega (arith, room)

decimal_digits : (n : ℕ) → n < 10 ^ 64 → list_all is_digit (decimal n) ≡ true
decimal_digits n small =
    decimal_by_steps_wide (λ (_ : ℕ) (ds : List ℕ). list_all is_digit ds ≡ true)
    (λ k one. rw (digit_of k one) refl)
    (λ k ds ten h. list_all-append is_digit ds ((48 + k % 10) ∷ []) ∙ rw (h, digit_of (k % 10) (omega arith)) refl)
    n small

decimal_some : (n : ℕ) → n < 10 ^ 64 → list_any is_digit (decimal n) ≡ true
decimal_some n small =
    decimal_by_steps_wide (λ (_ : ℕ) (ds : List ℕ). list_any is_digit ds ≡ true)
    (λ k one. rw (digit_of k one) refl)
    (λ k ds ten h. list_any-append is_digit ds ((48 + k % 10) ∷ []) ∙ rw h refl)
    n small

zeros_digits : (k : ℕ) → list_all is_digit (replicate k 48) ≡ true
zeros_digits zero = refl
zeros_digits (suc k) = zeros_digits k

fill : ℕ → List ℕ
fill k = replicate k 48

fill_length : (k : ℕ) → length (fill k) ≡ k
unfolding fill
fill_length k = length-replicate {A = ℕ} k 48

small_decimals : (p f : ℕ) → p ≤ 18 → f < 10 ^ p → f < 10 ^ 64
small_decimals p f few small =
    let less : p ≤ 64 = omega arith in
    let powers : 10 ^ p ≤ 10 ^ 64 = pow-le-pow_right {n = 10} (lit< tt) less in
    omega (arith, powers)

padded_length : (p f : ℕ) → 0 < p → p ≤ 18 → f < 10 ^ p → length (zero_padded p f) ≡ p
unfolding fill
padded_length p f some few small =
    let short : length (decimal f) ≤ p = length-decimal-le_wide p f some small (small_decimals p f few small) in
    length-append (fill (p - length (decimal f))) (decimal f)
    ∙ ap (λ (k : ℕ). k + length (decimal f)) (fill_length (p - length (decimal f)))
    ∙ rejoined (length (decimal f)) p short
  where
    rejoined : (k q : ℕ) → k ≤ q → (q - k) + k ≡ q
    rejoined k q h = omega arith

padded_digits : (p f : ℕ) → f < 10 ^ 64 → list_all is_digit (zero_padded p f) ≡ true
padded_digits p f small =
    list_all-append is_digit (replicate (p - length (decimal f)) 48) (decimal f)
    ∙ ap (λ (t : Bool). t && list_all is_digit (decimal f)) (zeros_digits (p - length (decimal f)))
    ∙ decimal_digits f small

-- ---- what is read

-- A text reads as a number of units of 10 ^ -places.
pub record ReadsTo (decided : Option ℕ) (text : List ℕ) (n places : ℕ) : Type 0 where
  pub number : Number
  pub value : number.value ≡ record { mantissa = pos n; places = places }
  pub read : reading text decided ≡ Ok number

read_number : (text : List ℕ) (decided : Option ℕ) (number : Number) → number_of text decided ≡ Some number → reading text decided ≡ Ok number
read_number text decided number e = rw (e, reading) refl

all_five : (a b c d e : Bool) → a ≡ true → b ≡ true → c ≡ true → d ≡ true → e ≡ true → (a && b && c && d && e) ≡ true
all_five a b c d e h i j k l = rw (h, i, j, k, l) refl

first_any : (p : ℕ → Bool) (xs : List ℕ) → first_is p xs ≡ true → list_any p xs ≡ true
first_any p [] h = absurd (false≢true h)
first_any p (x ∷ xs) h = ap (λ (t : Bool). t || list_any p xs) h

at_most : (x y : ℕ) → x ≤ y → nat_le x y ≡ true
at_most x y h = grind (arith, nat_tests)

test_less : (x y : ℕ) → x < y → nat_lt x y ≡ true
test_less x y h = grind (arith, nat_tests)

-- of a text, with this mark, these digits before it and those behind it
reads_with : (text whole decs : List ℕ) (mark decided : Option ℕ) (n places : ℕ)
    → whole ≡ take (whole_len text mark) text → decs ≡ drop (whole_len text mark + 1) text → decimal_mark text decided ≡ mark
    → list_all is_number_byte text ≡ true → list_any is_digit text ≡ true → list_all is_digit decs ≡ true → are_groups (group_sizes whole) ≡ true
    → mantissa_of text ≡ n → length decs ≡ places → places ≤ 18 → n < 2 ^ 127 → ReadsTo decided text n places
reads_with text whole decs mark decided n places is_whole is_decs marked bytes some digits groups value len few small =
    let short : nat_le (length decs) 18 ≡ true = ap (λ (k : ℕ). nat_le k 18) len ∙ at_most places 18 few in
    let written : is_written text whole decs ≡ true =
    all_five (list_all is_number_byte text) (list_any is_digit text) (list_all is_digit decs) (nat_le (length decs) 18) (are_groups (group_sizes whole)) bytes some digits short groups in
    let fits : nat_lt (mantissa_of text) (2 ^ 127) ≡ true = ap (λ (k : ℕ). nat_lt k (2 ^ 127)) value ∙ test_less n (2 ^ 127) small in
    record {
      number = record {
        value = record { mantissa = pos (mantissa_of text); places = length decs };
        mark = mark;
        group = find is_mark whole;
        first = first_size (group_sizes whole);
        rest = rest_size (group_sizes whole);
      };
      value = λ i. record { mantissa = pos (value i); places = len i };
      read = read_number text decided _ (ap (number_with text) marked ∙ number_with-some text whole decs mark is_whole is_decs written fits);
    }

count_none : (m : ℕ) (xs : List ℕ) → list_all (λ b. not (b == m)) xs ≡ true → count_by (λ b. b == m) xs ≡ 0
count_none m [] h = refl
count_none m (x ∷ xs) h =
    let all = both_true (not (x == m)) (list_all (λ b. not (b == m)) xs) h in
    let here = not_false (x == m) all.0 in
    let more = count_none m xs all.1 in
    sum_by-cons (λ b. cond (b == m) 1 0) x xs ∙ rw (here, more) refl

count_one : (m : ℕ) (xs ys : List ℕ) → list_all (λ b. not (b == m)) xs ≡ true → list_all (λ b. not (b == m)) ys ≡ true → count_by (λ b. b == m) (xs ++ m ∷ ys) ≡ 1
count_one m xs ys h k =
    let none = count_none m xs h in
    let rest = count_none m ys k in
    let here = same_byte m in
    sum_by-append (λ b. cond (b == m) 1 0) xs (m ∷ ys)
    ∙ ap (λ (c : ℕ). count_by (λ b. b == m) xs + c) (sum_by-cons (λ b. cond (b == m) 1 0) m ys)
    ∙ rw (none, rest, here) refl

find_mark : (m : ℕ) (ds rest : List ℕ) → is_mark m ≡ true → list_all is_digit ds ≡ true → find is_mark (ds ++ m ∷ rest) ≡ Some m
find_mark m [] rest mark h = ap (λ (t : Bool). cond {A = Option ℕ} t (Some m) (find is_mark rest)) mark
find_mark m (d ∷ ds) rest mark h =
    let all = both_true (is_digit d) (list_all is_digit ds) h in
    ap (λ (t : Bool). cond {A = Option ℕ} t (Some d) (find is_mark (ds ++ m ∷ rest))) (digit_mark d all.0) ∙ find_mark m ds rest mark all.1

find_none : (ds : List ℕ) → list_all is_digit ds ≡ true → find is_mark ds ≡ None
find_none [] h = refl
find_none (d ∷ ds) h =
    let all = both_true (is_digit d) (list_all is_digit ds) h in
    ap (λ (t : Bool). cond {A = Option ℕ} t (Some d) (find is_mark ds)) (digit_mark d all.0) ∙ find_none ds all.1

any_none : (m : ℕ) (xs : List ℕ) → list_all (λ b. not (b == m)) xs ≡ true → list_any (λ b. b == m) xs ≡ false
any_none m [] h = refl
any_none m (x ∷ xs) h =
    let all = both_true (not (x == m)) (list_all (λ b. not (b == m)) xs) h in
    ap (λ (t : Bool). t || list_any (λ b. b == m) xs) (not_false (x == m) all.0) ∙ any_none m xs all.1

past_seam : (xs : List ℕ) (y : ℕ) (ys : List ℕ) → drop (length xs + 1) (xs ++ y ∷ ys) ≡ ys
past_seam xs y ys =
    ap (λ (k : ℕ). drop k (xs ++ y ∷ ys)) (sym (length-append xs (y ∷ [])))
    ∙ ap (λ (zs : List ℕ). drop (length (xs ++ y ∷ [])) zs) (sym (append_assoc xs (y ∷ []) ys))
    ∙ drop-append_seam (xs ++ y ∷ []) ys

-- the last mark is kept, which stands once
kept_once : (m : ℕ) (text : List ℕ) → count_by (λ b. b == m) text ≡ 1 → kept_mark text (Some m) ≡ Some m
kept_once m text one =
    let test : nat_lt (count_by (λ b. b == m) text) 2 ≡ true = ap (λ (k : ℕ). nat_lt k 2) one in
    ap (λ (t : Bool). cond {A = Option ℕ} (list_any (λ b. b == other_mark m) text || t) (Some m) None) test
    ∙ ap (λ (t : Bool). cond {A = Option ℕ} t (Some m) None) (or_true (list_any (λ b. b == other_mark m) text))

-- digits with group marks, the decimal mark, and digits
pub reads_marked : (decided : Option ℕ) (m n places : ℕ) (ds g es : List ℕ) → is_mark m ≡ true → IsOf decided m → IsGrouped (other_mark m) ds g → list_all is_digit es ≡ true
    → digits_value 10 (ds ++ es) ≡ n → length es ≡ places → places ≤ 18 → n < 2 ^ 127 → ReadsTo decided (g ++ m ∷ es) n places
reads_marked decided m n places ds g es mark of is digits total len few small =
    reads_with text g es (Some m) decided n places
    (sym (ap (λ (k : ℕ). take k text) place ∙ take-append_seam g (m ∷ es)))
    (sym (ap (λ (k : ℕ). drop (k + 1) text) place ∙ past_seam g m es))
    (decided_by decided of)
    (list_all-append is_number_byte g (m ∷ es)
    ∙ ap (λ (t : Bool). t && (is_number_byte m && list_all is_number_byte es)) (all_also (is_part (other_mark m)) is_number_byte g (other_byte m) is.parts)
    ∙ ap (λ (t : Bool). t && list_all is_number_byte es) (mark_byte m mark)
    ∙ all_also is_digit is_number_byte es digit_byte digits)
    (list_any-append is_digit g (m ∷ es) ∙ ap (λ (t : Bool). t || list_any is_digit (m ∷ es)) (first_any is_digit g is.first))
    digits (are_grouped (other_mark m) ds g is)
    (ap (digits_value 10)
    (filter-append is_digit g (m ∷ es)
    ∙ ap (λ (xs : List ℕ). xs ++ filter is_digit (m ∷ es)) is.kept
    ∙ ap (λ (t : Bool). ds ++ cond t (m ∷ filter is_digit es) (filter is_digit es)) (mark_digit m mark)
    ∙ ap (λ (xs : List ℕ). ds ++ xs) (filter_digits es digits))
    ∙ total)
    len few small
  where
    text : List ℕ
    text = g ++ m ∷ es

    front : list_all (λ b. not (b == m)) g ≡ true
    front = all_also (is_part (other_mark m)) (λ b. not (b == m)) g (λ b h. part_apart m b mark h) is.parts

    back : list_all (λ b. not (b == m)) es ≡ true
    back = all_also is_digit (λ b. not (b == m)) es (λ b h. digit_apart m b mark h) digits

    place : prefix_len (λ b. not (b == m)) (g ++ m ∷ es) ≡ length g
    place = prefix_stops (λ b. not (b == m)) g m es front (ap not (same_byte m))

    stands : list_any (λ b. b == m) (g ++ m ∷ es) ≡ true
    stands =
        list_any-append (λ b. b == m) g (m ∷ es)
        ∙ ap (λ (t : Bool). list_any (λ b. b == m) g || (t || list_any (λ b. b == m) es)) (same_byte m)
        ∙ or_true (list_any (λ b. b == m) g)

    found : find is_mark (reverse (g ++ m ∷ es)) ≡ Some m
    found =
        ap (find is_mark)
        (reverse-append g (m ∷ es)
        ∙ ap (λ (xs : List ℕ). xs ++ reverse g) (reverse-append (m ∷ []) es)
        ∙ append_assoc (reverse es) (m ∷ []) (reverse g))
        ∙ find_mark m (reverse es) (reverse g) mark (reverse_all is_digit es digits)

    decided_by : (decided : Option ℕ) → IsOf decided m → decimal_mark (g ++ m ∷ es) decided ≡ Some m
    decided_by None of = ap (kept_mark (g ++ m ∷ es)) found ∙ kept_once m (g ++ m ∷ es) (count_one m g es front back)
    decided_by (Some d) of =
        ap (λ (k : ℕ). decimal_mark (g ++ m ∷ es) (Some k)) of
        ∙ ap (λ (t : Bool). cond {A = Option ℕ} t (Some m) None) stands

-- digits alone
pub reads_plain : (decided : Option ℕ) (m n : ℕ) (ds g : List ℕ) → is_mark m ≡ true → IsOf decided m → IsGrouped (other_mark m) ds g → list_all is_digit g ≡ true
    → digits_value 10 ds ≡ n → n < 2 ^ 127 → ReadsTo decided g n 0
reads_plain decided m n ds g mark of is digits total small =
    reads_with g g [] None decided n 0
    (sym (take-length g)) (sym (drop_of_length-le g (omega arith))) (decided_by decided of)
    (all_also is_digit is_number_byte g digit_byte digits) (first_any is_digit g is.first) refl (are_grouped (other_mark m) ds g is)
    (ap (digits_value 10) is.kept ∙ total) refl (omega arith) small
  where
    decided_by : (decided : Option ℕ) → IsOf decided m → decimal_mark g decided ≡ None
    decided_by None of = ap (kept_mark g) (find_none (reverse g) (reverse_all is_digit g digits))
    decided_by (Some d) of =
        ap (λ (k : ℕ). decimal_mark g (Some k)) of
        ∙ ap (λ (t : Bool). cond {A = Option ℕ} t (Some m) None) (any_none m g (all_also is_digit (λ b. not (b == m)) g (λ b h. digit_apart m b mark h) digits))

-- ---- the value of the digits

-- what a number's text without groups is
abbrev plain_shape : Shape
plain_shape = record { mark = 46; group = None; first = 3; rest = 3 }

abbrev decimals_of : ℕ → ℕ → List ℕ
decimals_of n p = cond (nat_lt 0 p) (zero_padded p (n % 10 ^ p)) []

no_separator : (b : Bool) → (if b then mark_text None else []) ≡ []
no_separator true = refl
no_separator false = refl

grouped_none : (shape : Shape) (ds : List ℕ) → shape.group ≡ None → grouped shape ds ≡ ds
grouped_none shape [] h = refl
grouped_none shape (d ∷ ds) h =
    let apart : separator shape (length ds) ≡ [] = rw h (no_separator (ends_group shape (length ds))) in
    let more = grouped_none shape ds h in
    rw (apart, more) refl

-- the text of a number without its sign, where the decimal mark is a byte
scaled_is : (n p : ℕ) (shape : Shape) → encode_utf8 shape.mark ≡ shape.mark ∷ []
    → printed_scaled false n p shape ≡ grouped shape (decimal (n / 10 ^ p)) ++ cond (nat_lt 0 p) (shape.mark ∷ zero_padded p (n % 10 ^ p)) []
unfolding printed_scaled
scaled_is n p shape e = ap (λ (xs : List ℕ). grouped shape (decimal (n / 10 ^ p)) ++ cond (nat_lt 0 p) (xs ++ zero_padded p (n % 10 ^ p)) []) e

mark_text_is : (m : ℕ) → is_mark m ≡ true → encode_utf8 m ≡ m ∷ []
mark_text_is m h = encode_ascii m (low m h)
  where
    low : (m : ℕ) → is_mark m ≡ true → m < 128
    low m h = grind (arith, nat_tests)

kept_value : {A : Type 0} (t : Bool) (x y : A) → cond {A = Option A} t (Some x) None ≡ Some y → x ≡ y
kept_value true x y h = let same : x ≡ y = cc in same
kept_value false x y h = absurd (let never : ⊥ = cc in never)

mantissa_told : (text : List ℕ) (mark : Option ℕ) (number : Number) → number_with text mark ≡ Some number → mantissa_of text ≡ unsigned_abs (number.value).mantissa
unfolding number_with
mantissa_told text mark number h =
    ap (λ (x : Number). unsigned_abs (x.value).mantissa)
    (kept_value (is_written text (take (whole_len text mark) text) (drop (whole_len text mark + 1) text) && nat_lt (mantissa_of text) (2 ^ 127)) _ number h)

whole_small : (n p : ℕ) → n < 2 ^ 127 → n / 10 ^ p < 10 ^ 64
whole_small n p small = let less : n / 10 ^ p ≤ n = div-le_self n (10 ^ p) in wide_of (n / 10 ^ p) (omega (arith, less))

rest_small : (n p : ℕ) → n % 10 ^ p < 10 ^ p
rest_small n p = let some : 0 < 10 ^ p = pow_ten_positive p in mod_below n (10 ^ p) some

decimals_all : (n p : ℕ) → p ≤ 18 → list_all is_digit (decimals_of n p) ≡ true
decimals_all n p few = by (nat_lt 0 p)
  where
    by : (t : Bool) → list_all is_digit (cond t (zero_padded p (n % 10 ^ p)) []) ≡ true
    by true = padded_digits p (n % 10 ^ p) (small_decimals p (n % 10 ^ p) few (rest_small n p))
    by false = refl

above : (j : ℕ) → nat_lt 0 (suc j) ≡ true
above j = grind (arith, nat_tests)

decimals_length : (n p : ℕ) → p ≤ 18 → length (decimals_of n p) ≡ p
decimals_length n zero few = refl
decimals_length n (suc q) few =
    ap (λ (t : Bool). length (cond t (zero_padded (suc q) (n % 10 ^ suc q)) [])) (above q)
    ∙ padded_length (suc q) (n % 10 ^ suc q) (omega arith) few (rest_small n (suc q))

-- the digits before the mark and behind it make up the number
digits_total : (n p : ℕ) → p ≤ 18 → n < 2 ^ 127 → digits_value 10 (decimal (n / 10 ^ p) ++ decimals_of n p) ≡ n
digits_total n p few small =
    let whole = decimal (n / 10 ^ p) in
    let decs = zero_padded p (n % 10 ^ p) in
    let text = whole ++ cond (nat_lt 0 p) (46 ∷ decs) [] in
    let is : printed_scaled false n p plain_shape ≡ text = scaled_is n p plain_shape (mark_text_is 46 refl) ∙ ap (λ (xs : List ℕ). xs ++ cond (nat_lt 0 p) (46 ∷ decs) []) (grouped_none plain_shape whole refl) in
    let read = ap (λ (xs : List ℕ). number_of xs (Some 46)) (sym is) ∙ number_of-printed n p plain_shape few small refl refl in
    ap (digits_value 10) (sym (kept (nat_lt 0 p) whole decs (decimal_digits (n / 10 ^ p) (whole_small n p small)) (padded_digits p (n % 10 ^ p) (small_decimals p (n % 10 ^ p) few (rest_small n p)))))
    ∙ mantissa_told text (decimal_mark text (Some 46)) _ read
  where
    kept : (t : Bool) (whole decs : List ℕ) → list_all is_digit whole ≡ true → list_all is_digit decs ≡ true → filter is_digit (whole ++ cond t (46 ∷ decs) []) ≡ whole ++ cond t decs []
    kept true whole decs h k = filter-append is_digit whole (46 ∷ decs) ∙ (λ i. filter_digits whole h i ++ filter_digits decs k i)
    kept false whole decs h k = filter-append is_digit whole [] ∙ ap (λ (xs : List ℕ). xs ++ []) (filter_digits whole h)

-- ---- what is printed

-- A number as it is shown: its sign, and digits and marks that read as its magnitude.
pub record IsNumberShown (decided : Option ℕ) (v : Decimal) (text : List ℕ) : Type 0 where
  pub digits : List ℕ
  pub is : text ≡ sign_text (int_lt v.mantissa (pos 0)) ++ digits
  pub bytes : list_all is_number_byte digits ≡ true
  pub first : first_is is_digit digits ≡ true
  pub reads : ReadsTo decided digits (unsigned_abs v.mantissa) v.places

not_negative : (n : ℕ) → int_lt (pos n) (pos 0) ≡ false
not_negative n = grind (arith, nat_tests)

negative : (n : ℕ) → 0 < n → int_lt (neg_ℤ (pos n)) (pos 0) ≡ true
negative zero h = absurd (omega arith)
negative (suc n) h = refl

some_product : (j k : ℕ) → 0 < k → 0 < suc j * k
some_product j k h = omega arith

sign_same : (z : ℤ) (k : ℕ) → 0 < k → (int_lt (z *ℤ pos k) (pos 0) && nat_lt 0 (unsigned_abs z)) ≡ int_lt z (pos 0)
sign_same (pos n) k h = ap (λ (y : ℤ). int_lt y (pos 0) && nat_lt 0 n) (pos-*ℤ-pos n k) ∙ ap (λ (b : Bool). b && nat_lt 0 n) (not_negative (n * k)) ∙ sym (not_negative n)
sign_same (negsuc j) k h = ap (λ (b : Bool). b && nat_lt 0 (suc j)) (negative (suc j * k) (some_product j k h)) ∙ above j

-- a number with its own decimals: its sign, and its magnitude
printed_is : (v : Decimal) (shape : Shape) → printed_number v v.places shape ≡ sign_text (int_lt v.mantissa (pos 0)) ++ printed_scaled false (unsigned_abs v.mantissa) v.places shape
printed_is v shape =
    let k = 10 ^ (36 - v.places) in
    let n = unsigned_abs v.mantissa in
    let some : 0 < k = pow_ten_positive (36 - v.places) in
    let counted : half_even (unsigned_abs (units_of v)) k ≡ n = ap (λ (x : ℕ). half_even x k) (unsigned_abs-mul v.mantissa (pos k)) ∙ half_even-mul n k some in
    printed_number-sign v v.places shape
    ∙ ap (λ (c : ℕ). sign_text (int_lt (units_of v) (pos 0) && nat_lt 0 c) ++ printed_scaled false c v.places shape) counted
    ∙ ap (λ (b : Bool). sign_text b ++ printed_scaled false n v.places shape) (sign_same v.mantissa k some)

second_false : (a b : Bool) → (a || b) ≡ false → b ≡ false
second_false true b h = absurd (false≢true (sym h))
second_false false b h = h

-- without a group mark the digits stand alone
plain_by : (shape : Shape) (group : Option ℕ) (m : ℕ) (sign ds : List ℕ) → shape.group ≡ group → IsApart group m → list_all is_digit ds ≡ true → IsGrouped (other_mark m) ds (grouped shape ds)
    → has_group_mark group (sign ++ grouped shape ds) ≡ false → list_all is_digit (grouped shape ds) ≡ true
plain_by shape None m sign ds e apart all is none = ap (list_all is_digit) (grouped_none shape ds e) ∙ all
plain_by shape (Some o) m sign ds e apart all is none =
    digits_only (other_mark m) (grouped shape ds) is.parts
    (second_false (list_any (λ b. b == other_mark m) sign) (list_any (λ b. b == other_mark m) (grouped shape ds))
    (sym (list_any-append (λ b. b == other_mark m) sign (grouped shape ds)) ∙ ap (λ (k : ℕ). list_any (λ b. b == k) (sign ++ grouped shape ds)) (sym apart) ∙ none))

grouped_some : (shape : Shape) (m : ℕ) (ds : List ℕ) → IsApart shape.group m → list_all is_digit ds ≡ true → list_any is_digit ds ≡ true → IsGrouped (other_mark m) ds (grouped shape ds)
grouped_some shape m [] apart all some = absurd (false≢true some)
grouped_some shape m (d ∷ ds) apart all some =
    let both = both_true (is_digit d) (list_all is_digit ds) all in
    grouped_is shape m d ds apart both.0 both.1

-- digits and marks, and how they read
record IsShownMagnitude (decided : Option ℕ) (n p : ℕ) (digits : List ℕ) : Type 0 where
  bytes : list_all is_number_byte digits ≡ true
  first : first_is is_digit digits ≡ true
  reads : ReadsTo decided digits n p

first_more : (p : ℕ → Bool) (xs ys : List ℕ) → first_is p xs ≡ true → first_is p (xs ++ ys) ≡ true
first_more p [] ys h = absurd (false≢true h)
first_more p (x ∷ xs) ys h = h

magnitude_marked : (decided : Option ℕ) (m n p : ℕ) (ds g es : List ℕ) → is_mark m ≡ true → IsOf decided m → IsGrouped (other_mark m) ds g → list_all is_digit es ≡ true
    → digits_value 10 (ds ++ es) ≡ n → length es ≡ p → p ≤ 18 → n < 2 ^ 127 → IsShownMagnitude decided n p (g ++ m ∷ es)
magnitude_marked decided m n p ds g es mark of is digits total len few small = record {
  bytes =
      list_all-append is_number_byte g (m ∷ es)
      ∙ ap (λ (t : Bool). t && (is_number_byte m && list_all is_number_byte es)) (all_also (is_part (other_mark m)) is_number_byte g (other_byte m) is.parts)
      ∙ ap (λ (t : Bool). t && list_all is_number_byte es) (mark_byte m mark)
      ∙ all_also is_digit is_number_byte es digit_byte digits;
  first = first_more is_digit g (m ∷ es) is.first;
  reads = reads_marked decided m n p ds g es mark of is digits total len few small;
}

magnitude_plain : (decided : Option ℕ) (m n : ℕ) (ds g : List ℕ) → is_mark m ≡ true → IsOf decided m → IsGrouped (other_mark m) ds g → list_all is_digit g ≡ true
    → digits_value 10 ds ≡ n → n < 2 ^ 127 → IsShownMagnitude decided n 0 g
magnitude_plain decided m n ds g mark of is digits total small = record {
  bytes = all_also is_digit is_number_byte g digit_byte digits;
  first = is.first;
  reads = reads_plain decided m n ds g mark of is digits total small;
}

regroup : (s g t : List ℕ) → (s ++ (g ++ [])) ++ t ≡ s ++ (g ++ t)
regroup s g t = ap (λ (xs : List ℕ). (s ++ xs) ++ t) (append-nil g) ∙ append_assoc s g t

abbrev pub dec : ℤ → ℕ → Decimal
dec z p = record { mantissa = z; places = p }

abbrev mark_in : Written → ℕ
mark_in shape = mark_of shape.mark shape.group

abbrev sign_of : ℤ → List ℕ
sign_of z = sign_text (int_lt z (pos 0))

-- without decimals
zero_shown : (decided : Option ℕ) (shape : Written) (z : ℤ) (ds g : List ℕ) (t : Bool) → is_mark (mark_in shape) ≡ true → IsOf decided (mark_in shape)
    → IsGrouped (other_mark (mark_in shape)) ds g → digits_value 10 (ds ++ []) ≡ unsigned_abs z → unsigned_abs z < 2 ^ 127
    → printed_number (dec z 0) 0 (number_shape shape) ≡ sign_of z ++ (g ++ [])
    → has_group_mark shape.group (sign_of z ++ (g ++ [])) ≡ t → (t ≡ false → list_all is_digit g ≡ true)
    → IsNumberShown decided (dec z 0) (number_text shape 0 (dec z 0))
zero_shown decided shape z ds g true mark of is total small whole has plain =
    let m = mark_in shape in
    let sign = sign_of z in
    let shown = magnitude_marked decided m (unsigned_abs z) 0 ds g [] mark of is refl total refl (omega arith) small in
    record {
      digits = g ++ m ∷ [];
      is =
          ap (λ (number : List ℕ). number ++ last_mark shape 0 number) whole
          ∙ ap (λ (b : Bool). (sign ++ (g ++ [])) ++ cond b (encode_utf8 m) []) has
          ∙ ap (λ (xs : List ℕ). (sign ++ (g ++ [])) ++ xs) (mark_text_is m mark)
          ∙ regroup sign g (m ∷ []);
      bytes = shown.bytes;
      first = shown.first;
      reads = shown.reads;
    }
zero_shown decided shape z ds g false mark of is total small whole has plain =
    let m = mark_in shape in
    let sign = sign_of z in
    let shown = magnitude_plain decided m (unsigned_abs z) ds g mark of is (plain refl) (ap (digits_value 10) (sym (append-nil ds)) ∙ total) small in
    record {
      digits = g;
      is =
          ap (λ (number : List ℕ). number ++ last_mark shape 0 number) whole
          ∙ ap (λ (b : Bool). (sign ++ (g ++ [])) ++ cond b (encode_utf8 m) []) has
          ∙ regroup sign g []
          ∙ ap (λ (xs : List ℕ). sign ++ xs) (append-nil g);
      bytes = shown.bytes;
      first = shown.first;
      reads = shown.reads;
    }

not_zero : (q : ℕ) → (suc q == 0) ≡ false
not_zero q = grind (arith, nat_tests)

-- with decimals
next_shown : (decided : Option ℕ) (shape : Written) (z : ℤ) (q : ℕ) (ds g es : List ℕ) → is_mark (mark_in shape) ≡ true → IsOf decided (mark_in shape)
    → IsGrouped (other_mark (mark_in shape)) ds g → list_all is_digit es ≡ true → digits_value 10 (ds ++ es) ≡ unsigned_abs z → length es ≡ suc q → suc q ≤ 18 → unsigned_abs z < 2 ^ 127
    → printed_number (dec z (suc q)) (suc q) (number_shape shape) ≡ sign_of z ++ (g ++ mark_in shape ∷ es)
    → IsNumberShown decided (dec z (suc q)) (number_text shape (suc q) (dec z (suc q)))
next_shown decided shape z q ds g es mark of is digits total len few small whole =
    let m = mark_in shape in
    let sign = sign_of z in
    let shown = magnitude_marked decided m (unsigned_abs z) (suc q) ds g es mark of is digits total len few small in
    record {
      digits = g ++ m ∷ es;
      is =
          ap (λ (number : List ℕ). number ++ last_mark shape (suc q) number) whole
          ∙ ap (λ (b : Bool). (sign ++ (g ++ m ∷ es)) ++ cond (b && has_group_mark shape.group (sign ++ (g ++ m ∷ es))) (encode_utf8 m) []) (not_zero q)
          ∙ append-nil (sign ++ (g ++ m ∷ es));
      bytes = shown.bytes;
      first = shown.first;
      reads = shown.reads;
    }

-- A number in a shape, with its own decimals.
pub number_shown : (decided : Option ℕ) (shape : Written) (z : ℤ) (p : ℕ) → IsShape decided shape → p ≤ 18 → unsigned_abs z < 2 ^ 127
    → IsNumberShown decided (dec z p) (number_text shape p (dec z p))
number_shown decided shape z zero is few small =
    let n = unsigned_abs z in
    let m = mark_in shape in
    let s = number_shape shape in
    let sign = sign_of z in
    let ds = decimal (n / 10 ^ 0) in
    let g = grouped s ds in
    let all = decimal_digits (n / 10 ^ 0) (whole_small n 0 small) in
    let groups = grouped_some s m ds is.group all (decimal_some (n / 10 ^ 0) (whole_small n 0 small)) in
    zero_shown decided shape z ds g (has_group_mark shape.group (sign ++ (g ++ []))) is.mark is.decided groups (digits_total n 0 few small) small
    (printed_is (dec z 0) s ∙ ap (λ (xs : List ℕ). sign ++ xs) (scaled_is n 0 s (mark_text_is m is.mark))) refl
    (λ none. plain_by s shape.group m sign ds refl is.group all groups (ap (λ (xs : List ℕ). has_group_mark shape.group (sign ++ xs)) (sym (append-nil g)) ∙ none))
number_shown decided shape z (suc q) is few small =
    let p = suc q in
    let n = unsigned_abs z in
    let m = mark_in shape in
    let s = number_shape shape in
    let sign = sign_of z in
    let ds = decimal (n / 10 ^ p) in
    let g = grouped s ds in
    let es = zero_padded p (n % 10 ^ p) in
    let some : (t : Bool) → t ≡ true → cond t es [] ≡ es = some_by es in
    let groups = grouped_some s m ds is.group (decimal_digits (n / 10 ^ p) (whole_small n p small)) (decimal_some (n / 10 ^ p) (whole_small n p small)) in
    let here : decimals_of n p ≡ es = some (nat_lt 0 p) (above q) in
    next_shown decided shape z q ds g es is.mark is.decided groups
    (padded_digits p (n % 10 ^ p) (small_decimals p (n % 10 ^ p) few (rest_small n p)))
    (ap (λ (xs : List ℕ). digits_value 10 (ds ++ xs)) (sym here) ∙ digits_total n p few small)
    (ap length (sym here) ∙ decimals_length n p few) few small
    (printed_is (dec z p) s
    ∙ ap (λ (xs : List ℕ). sign ++ xs) (scaled_is n p s (mark_text_is m is.mark))
    ∙ ap (λ (t : Bool). sign ++ (g ++ cond t (m ∷ es) [])) (above q))
  where
    some_by : (es : List ℕ) (t : Bool) → t ≡ true → cond t es [] ≡ es
    some_by es true h = refl
    some_by es false h = absurd (false≢true h)
