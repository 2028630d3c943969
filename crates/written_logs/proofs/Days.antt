-- A day that is written reads again.
use Rattle.std.proofs.Common.{ℕ, ◌≡◌, ◌+◌, ◌-◌, ◌*◌, ◌/◌, ◌%◌, ◌<◌, ◌≤◌, min, max, true, false, List, [], ◌∷◌, ◌++◌, Option, Some, None, Ok, drop, refl, ap, ◌∙◌, arith}
use Rattle.std.specs.Char.{is_ascii_digit}
use Rattle.std.specs.List.{list_all, prefix_len, take_while}
use Rattle.std.proofs.lemmas.Bool.Decides.{nat_tests}
use Rattle.hl_num.specs.Reading.{is_digit}
use Rattle.hl_time.specs.Calendar.{IsDay, last_day, has_day, day_number, year_of, month_of, day_of_month}
use Rattle.hl_time.specs.Date.{date_of, full_date, calendar_day, month_day, part_length, part_value, year_digits, year_value, is_separator}
use Rattle.hl_time.specs.Shown.{day_text}
use Rattle.hl_time.proofs.Inverse.{day_found, parts_of_day, month_length_bounds}
use Rattle.entry_reader.specs.Heads.{is_date_byte, day_at, day_before}
use Rattle.entry_reader.specs.Lines.{after_white, first_is}
use Rattle.journal_printer.specs.Texts.{calendar_text}
use Rattle.written_logs.proofs.Bytes.{front_stops, rest_stops}

-- the ten bytes of a date
abbrev ten : (a b c d e f g h : ℕ) → List ℕ
ten a b c d e f g h = a ∷ b ∷ c ∷ d ∷ 45 ∷ e ∷ f ∷ 45 ∷ g ∷ h ∷ []

full_is : (a b c d e f g h : ℕ) → is_ascii_digit a ≡ true → is_ascii_digit b ≡ true → is_ascii_digit c ≡ true → is_ascii_digit d ≡ true
    → is_ascii_digit e ≡ true → is_ascii_digit f ≡ true → is_ascii_digit g ≡ true → is_ascii_digit h ≡ true
    → full_date (ten a b c d e f g h)
    ≡ calendar_day (1000 * (a - 48) + 100 * (b - 48) + 10 * (c - 48) + (d - 48)) (10 * (e - 48) + (f - 48)) (10 * (g - 48) + (h - 48)) 5 8
unfolding full_date month_day part_length part_value year_digits year_value
full_is a b c d e f g h ha hb hc hd he hf hg hh = rw (ha, hb, hc, hd, he, hf, hg, hh) refl

any_year : (year : Option ℕ) (a b c d e f g h : ℕ) → is_ascii_digit a ≡ true → is_ascii_digit b ≡ true → is_separator c ≡ false
    → date_of (ten a b c d e f g h) year ≡ full_date (ten a b c d e f g h)
unfolding date_of part_length
any_year None a b c d e f g h ha hb hc = refl
any_year (Some year) a b c d e f g h ha hb hc = rw (ha, hb, hc) refl

calendar_is : (y m d year month day number : ℕ) → y ≡ year → m ≡ month → d ≡ day → has_day year month day ≡ true → day_number year month day ≡ number
    → calendar_day y m d 5 8 ≡ Ok number
unfolding calendar_day
calendar_is y m d year month day number ey em ed has is = rw (ey, em, ed, has, is) refl

ascii_digit : (k : ℕ) → k < 10 → is_ascii_digit (48 + k) ≡ true
ascii_digit k h = grind (arith, nat_tests)

no_separator : (k : ℕ) → k < 10 → is_separator (48 + k) ≡ false
no_separator k h = grind (arith, nat_tests)

plain_digit : (k : ℕ) → k < 10 → is_digit (48 + k) ≡ true
plain_digit k h = grind (arith, nat_tests)

-- the bytes of a year, a month and a day
abbrev date_bytes : ℕ → ℕ → ℕ → List ℕ
date_bytes y m d =
    ten (48 + y / 100 / 10) (48 + y / 100 % 10) (48 + y % 100 / 10) (48 + y % 100 % 10) (48 + m / 10) (48 + m % 10) (48 + d / 10) (48 + d % 10)

year_back : (y : ℕ) → y ≤ 9999 → 1000 * (48 + y / 100 / 10 - 48) + 100 * (48 + y / 100 % 10 - 48) + 10 * (48 + y % 100 / 10 - 48) + (48 + y % 100 % 10 - 48) ≡ y
year_back y most = omega arith

pair_back : (n : ℕ) → n ≤ 99 → 10 * (48 + n / 10 - 48) + (48 + n % 10 - 48) ≡ n
pair_back n most = omega arith

tens_small : (n : ℕ) → n ≤ 99 → n / 10 < 10
tens_small n most = omega arith

ones_small : (n : ℕ) → n % 10 < 10
ones_small n = omega arith

high_small : (y : ℕ) → y ≤ 9999 → y / 100 ≤ 99
high_small y most = omega arith

low_small : (y : ℕ) → y % 100 ≤ 99
low_small y = omega arith

date_back : (year : Option ℕ) (y m d number : ℕ) → y ≤ 9999 → m ≤ 99 → d ≤ 99 → has_day y m d ≡ true → day_number y m d ≡ number → date_of (date_bytes y m d) year ≡ Ok number
date_back year y m d number ym mm dm has is =
    let a = tens_small (y / 100) (high_small y ym) in
    let b = ones_small (y / 100) in
    let c = tens_small (y % 100) (low_small y) in
    let e = tens_small m mm in
    let g = tens_small d dm in
    any_year year (48 + y / 100 / 10) (48 + y / 100 % 10) (48 + y % 100 / 10) (48 + y % 100 % 10) (48 + m / 10) (48 + m % 10) (48 + d / 10) (48 + d % 10)
    (ascii_digit (y / 100 / 10) a) (ascii_digit (y / 100 % 10) b) (no_separator (y % 100 / 10) c)
    ∙ full_is (48 + y / 100 / 10) (48 + y / 100 % 10) (48 + y % 100 / 10) (48 + y % 100 % 10) (48 + m / 10) (48 + m % 10) (48 + d / 10) (48 + d % 10)
    (ascii_digit (y / 100 / 10) a) (ascii_digit (y / 100 % 10) b) (ascii_digit (y % 100 / 10) c) (ascii_digit (y % 100 % 10) (ones_small (y % 100)))
    (ascii_digit (m / 10) e) (ascii_digit (m % 10) (ones_small m)) (ascii_digit (d / 10) g) (ascii_digit (d % 10) (ones_small d))
    ∙ calendar_is (1000 * (48 + y / 100 / 10 - 48) + 100 * (48 + y / 100 % 10 - 48) + 10 * (48 + y % 100 / 10 - 48) + (48 + y % 100 % 10 - 48))
    (10 * (48 + m / 10 - 48) + (48 + m % 10 - 48)) (10 * (48 + d / 10 - 48) + (48 + d % 10 - 48)) y m d number
    (year_back y ym) (pair_back m mm) (pair_back d dm) has is

all_ten : (a b c d e f g h : ℕ) → is_digit a ≡ true → is_digit b ≡ true → is_digit c ≡ true → is_digit d ≡ true → is_digit e ≡ true → is_digit f ≡ true → is_digit g ≡ true → is_digit h ≡ true
    → list_all is_date_byte (ten a b c d e f g h) ≡ true
all_ten a b c d e f g h ha hb hc hd he hf hg hh = rw (ha, hb, hc, hd, he, hf, hg, hh) refl

date_all : (y m d : ℕ) → y ≤ 9999 → m ≤ 99 → d ≤ 99 → list_all is_date_byte (date_bytes y m d) ≡ true
date_all y m d ym mm dm =
    all_ten (48 + y / 100 / 10) (48 + y / 100 % 10) (48 + y % 100 / 10) (48 + y % 100 % 10) (48 + m / 10) (48 + m % 10) (48 + d / 10) (48 + d % 10)
    (plain_digit (y / 100 / 10) (tens_small (y / 100) (high_small y ym))) (plain_digit (y / 100 % 10) (ones_small (y / 100)))
    (plain_digit (y % 100 / 10) (tens_small (y % 100) (low_small y))) (plain_digit (y % 100 % 10) (ones_small (y % 100)))
    (plain_digit (m / 10) (tens_small m mm)) (plain_digit (m % 10) (ones_small m)) (plain_digit (d / 10) (tens_small d dm)) (plain_digit (d % 10) (ones_small d))

text_is : (day : ℕ) → day_text day ≡ date_bytes (year_of day) (month_of day) (day_of_month day)
unfolding day_text
text_is day = refl

-- the year, the month and the day of a day are small
record AreSmall (day : ℕ) : Type 0 where
  year : year_of day ≤ 9999
  month : month_of day ≤ 99
  day_in_month : day_of_month day ≤ 99

small_parts : (day : ℕ) → IsDay day → AreSmall day
small_parts day within =
    let parts = parts_of_day (year_of day) (month_of day) (day_of_month day) (day_found day within).has in
    let longest = (month_length_bounds (year_of day) (month_of day)).1 in
    record {
      year = parts.year_most;
      month = omega (arith, parts.month_most);
      day_in_month = omega (arith, parts.day_most, longest);
    }

day_back : (year : Option ℕ) (day : ℕ) → IsDay day → date_of (day_text day) year ≡ Ok day
day_back year day within =
    let small = small_parts day within in
    let found = day_found day within in
    ap (λ (text : List ℕ). date_of text year) (text_is day)
    ∙ date_back year (year_of day) (month_of day) (day_of_month day) day small.year small.month small.day_in_month found.has found.same

day_bytes : (day : ℕ) → IsDay day → list_all is_date_byte (day_text day) ≡ true
day_bytes day within =
    let small = small_parts day within in
    ap (list_all is_date_byte) (text_is day) ∙ date_all (year_of day) (month_of day) (day_of_month day) small.year small.month small.day_in_month

clamped : (day : ℕ) → IsDay day → max 1 (min day last_day) ≡ day
clamped day within = omega (arith, within.0, within.1)

-- ---- as a transaction shows it

pub shown_bytes : (day : ℕ) → IsDay day → list_all is_date_byte (calendar_text day) ≡ true
shown_bytes day within = ap (λ (d : ℕ). list_all is_date_byte (day_text d)) (clamped day within) ∙ day_bytes day within

first_digit : (a b c d e f g h : ℕ) (rest : List ℕ) → is_digit a ≡ true → first_is is_digit (ten a b c d e f g h ++ rest) ≡ true
first_digit a b c d e f g h rest ha = ha

pub shown_first : (day : ℕ) (rest : List ℕ) → IsDay day → first_is is_digit (calendar_text day ++ rest) ≡ true
shown_first day rest within =
    let small = small_parts day within in
    let y = year_of day in
    ap (λ (d : ℕ). first_is is_digit (day_text d ++ rest)) (clamped day within)
    ∙ ap (λ (text : List ℕ). first_is is_digit (text ++ rest)) (text_is day)
    ∙ first_digit (48 + y / 100 / 10) (48 + y / 100 % 10) (48 + y % 100 / 10) (48 + y % 100 % 10) (48 + month_of day / 10) (48 + month_of day % 10)
    (48 + day_of_month day / 10) (48 + day_of_month day % 10) rest (plain_digit (y / 100 / 10) (tens_small (y / 100) (high_small y small.year)))

-- a day, with a space and anything behind it
pub day_at_front : (year : Option ℕ) (line day : ℕ) (rest : List ℕ) → IsDay day → day_at year line (calendar_text day ++ 32 ∷ rest) ≡ Ok (day, after_white (32 ∷ rest))
unfolding day_at
day_at_front year line day rest within =
    let all = shown_bytes day within in
    let front : take_while is_date_byte (calendar_text day ++ 32 ∷ rest) ≡ calendar_text day = front_stops is_date_byte (calendar_text day) 32 rest all refl in
    let behind : drop (prefix_len is_date_byte (calendar_text day ++ 32 ∷ rest)) (calendar_text day ++ 32 ∷ rest) ≡ 32 ∷ rest = rest_stops is_date_byte (calendar_text day) 32 rest all refl in
    let back : date_of (calendar_text day) year ≡ Ok day = ap (λ (d : ℕ). date_of (day_text d) year) (clamped day within) ∙ day_back year day within in
    ap (λ (text : List ℕ). day_before line text (date_of (take_while is_date_byte (calendar_text day ++ 32 ∷ rest)) year)) behind
    ∙ ap (λ (text : List ℕ). day_before line (32 ∷ rest) (date_of text year)) front
    ∙ ap (day_before line (32 ∷ rest)) back
