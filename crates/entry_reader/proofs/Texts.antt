-- Texts cut at ASCII bytes.
use Rattle.std.proofs.Common.{◌≡◌, ℕ, zero, suc, ◌+◌, ◌-◌, ◌<◌, ◌≤◌, Bool, true, false, cond, ◌==◌, not, ltb, nat_eq, codes, List, [], ◌∷◌, length, get_or, take, drop, refl, arith, inl, inr}
use Rattle.std.specs.List.{prefix_len, take_while, before_first, after_first, list_all, starts_with}
use Rattle.std.specs.Str.{is_utf8, IsUtf8, IsCharBoundary}
use Rattle.hl_base.specs.Items.{is_white}
use Rattle.hl_num.specs.Reading.{is_number_byte}
use Rattle.entry_reader.specs.Heads.{is_date_byte}
use Rattle.entry_reader.specs.Lines.{begins, starts_ascii, after_white}
use Rattle.entry_reader.specs.Symbols.{is_symbol_byte}
use borrow.Author.Tests.{ltb-true}
use Rattle.entry_reader.specs.Amounts.{total_mark, unit_mark}
use Rattle.entry_reader.proofs.Both.{both_true}
use Rattle.std.specs.Cmp.Lexicographic.{pointwise}
use Rattle.std.proofs.lemmas.Bool.{cases_lt, eqb-true}
use Rattle.std.proofs.lemmas.List.{drop_all}
use Rattle.std.proofs.lemmas.Bool.Decides.{nat_tests}
use Rattle.std.proofs.lemmas.List.Folds.{length-prefix_len}
use Rattle.std.proofs.lemmas.List.Sums.{prefix_len-le-length, prefix_len_passes, prefix_len_stops}
use Rattle.std.proofs.lemmas.Str.{IsUtf8-from_is_utf8, is_utf8-from_IsUtf8, IsUtf8-take, IsUtf8-drop, IsCharBoundary-after_ascii, IsCharBoundary-start, IsUtf8-nil}

pub prefix_count : (p : ℕ → Bool) (text : List ℕ) → length (take_while p text) ≡ prefix_len p text
prefix_count p text = length-prefix_len p text

pub prefix_bound : (p : ℕ → Bool) (text : List ℕ) → prefix_len p text ≤ length text
prefix_bound p text = prefix_len-le-length p text

-- a text may be cut before an ASCII byte and at its end
pub cut_before : (text : List ℕ) (n : ℕ) → n ≤ length text → (n < length text → get_or text n 0 < 128) → IsCharBoundary text n
cut_before text n le ascii = (le, λ lt high. absurd (omega (arith, ascii lt)))

pub front_utf8 : (text : List ℕ) (n : ℕ) → IsCharBoundary text n → is_utf8 text ≡ true → is_utf8 (take n text) ≡ true
front_utf8 text n cut e = is_utf8-from_IsUtf8 (take n text) (IsUtf8-take text n (IsUtf8-from_is_utf8 text e) cut)

pub rest_utf8 : (text : List ℕ) (n : ℕ) → IsCharBoundary text n → is_utf8 text ≡ true → is_utf8 (drop n text) ≡ true
rest_utf8 text n cut e = is_utf8-from_IsUtf8 (drop n text) (IsUtf8-drop text n (IsUtf8-from_is_utf8 text e) cut)

-- and after an ASCII byte
pub past_utf8 : (text : List ℕ) (n : ℕ) → (n < length text → get_or text n 0 < 128) → is_utf8 text ≡ true → is_utf8 (drop (n + 1) text) ≡ true
past_utf8 text n ascii e =
    elim (cases_lt n (length text)) [
      | inl lt ↦ rest_utf8 text (n + 1) (IsCharBoundary-after_ascii text n (IsUtf8-from_is_utf8 text e) lt (ascii lt)) e
      | inr le ↦ rw (drop_all (n + 1) text (omega arith)) (is_utf8-from_IsUtf8 [] IsUtf8-nil)
    ]

-- where those that pass go up to an ASCII byte
pub stop_ascii : (p : ℕ → Bool) (text : List ℕ) → ((b : ℕ) → p b ≡ false → b < 128) → prefix_len p text < length text → get_or text (prefix_len p text) 0 < 128
stop_ascii p text ascii lt = ascii (get_or text (prefix_len p text) 0) (prefix_len_stops p text 0 lt)

pub stop_cut : (p : ℕ → Bool) (text : List ℕ) → ((b : ℕ) → p b ≡ false → b < 128) → IsCharBoundary text (prefix_len p text)
stop_cut p text ascii = cut_before text (prefix_len p text) (prefix_len-le-length p text) (stop_ascii p text ascii)

-- where only ASCII bytes pass
pass_cut : (p : ℕ → Bool) (text : List ℕ) (n : ℕ) → n ≡ prefix_len p text → ((b : ℕ) → p b ≡ true → b < 128) → IsUtf8 text → IsCharBoundary text n
pass_cut p text zero e ascii u = IsCharBoundary-start text u
pass_cut p text (suc n) e ascii u =
    let passes : n < prefix_len p text = omega arith in
    let within : n < length text = omega (arith, prefix_len-le-length p text) in
    let k : n + 1 ≡ suc n = omega arith in
    rw (← k) (IsCharBoundary-after_ascii text n u within (ascii (get_or text n 0) (prefix_len_passes p text n 0 passes)))

pub after_passing : (p : ℕ → Bool) (text : List ℕ) → ((b : ℕ) → p b ≡ true → b < 128) → is_utf8 text ≡ true → is_utf8 (drop (prefix_len p text) text) ≡ true
after_passing p text ascii e = rest_utf8 text (prefix_len p text) (pass_cut p text (prefix_len p text) refl ascii (IsUtf8-from_is_utf8 text e)) e

equal_ascii : (byte : ℕ) → byte < 128 → (b : ℕ) → not (b == byte) ≡ false → b < 128
equal_ascii byte lt b e = grind (arith, nat_tests)

pub before_byte : (text : List ℕ) (byte : ℕ) → byte < 128 → is_utf8 text ≡ true → is_utf8 (before_first (λ b. b == byte) text) ≡ true
before_byte text byte lt e = front_utf8 text (prefix_len (λ b. not (b == byte)) text) (stop_cut (λ b. not (b == byte)) text (equal_ascii byte lt)) e

pub after_byte : (text : List ℕ) (byte : ℕ) → byte < 128 → is_utf8 text ≡ true → is_utf8 (after_first (λ b. b == byte) text) ≡ true
after_byte text byte lt e = past_utf8 text (prefix_len (λ b. not (b == byte)) text) (stop_ascii (λ b. not (b == byte)) text (equal_ascii byte lt)) e

-- a text that ends where only white space follows
pub white_below : (b : ℕ) → is_white b ≡ true → b < 128
white_below b e = grind (arith, nat_tests)

number_below : (b : ℕ) → is_number_byte b ≡ true → b < 128
number_below b e = grind (arith, nat_tests)

date_below : (b : ℕ) → is_date_byte b ≡ true → b < 128
date_below b e = grind (arith, nat_tests)

symbol_below : (b : ℕ) → is_symbol_byte b ≡ false → b < 128
symbol_below b e = grind (arith, nat_tests)

pub after_white_utf8 : (text : List ℕ) → is_utf8 text ≡ true → is_utf8 (after_white text) ≡ true
after_white_utf8 text e = after_passing is_white text white_below e

pub after_number_utf8 : (text : List ℕ) → is_utf8 text ≡ true → is_utf8 (drop (prefix_len is_number_byte text) text) ≡ true
after_number_utf8 text e = after_passing is_number_byte text number_below e

pub after_date_utf8 : (text : List ℕ) → is_utf8 text ≡ true → is_utf8 (drop (prefix_len is_date_byte text) text) ≡ true
after_date_utf8 text e = after_passing is_date_byte text date_below e

pub symbol_utf8 : (text : List ℕ) → is_utf8 text ≡ true → is_utf8 (take (prefix_len is_symbol_byte text) text) ≡ true
symbol_utf8 text e = front_utf8 text (prefix_len is_symbol_byte text) (stop_cut is_symbol_byte text symbol_below) e

pub after_symbol_utf8 : (text : List ℕ) → is_utf8 text ≡ true → is_utf8 (drop (prefix_len is_symbol_byte text) text) ≡ true
after_symbol_utf8 text e = rest_utf8 text (prefix_len is_symbol_byte text) (stop_cut is_symbol_byte text symbol_below) e

-- a text that begins with a byte begins with an ASCII byte where that is one
pub begins_ascii : (text : List ℕ) (byte : ℕ) → byte < 128 → begins text byte ≡ true → starts_ascii text ≡ true
begins_ascii [] byte lt e = absurd cc
begins_ascii (b ∷ bs) byte lt e = grind (arith, nat_tests)

pub first_utf8 : (text : List ℕ) → starts_ascii text ≡ true → is_utf8 text ≡ true → is_utf8 (drop (0 + 1) text) ≡ true
first_utf8 [] a e = absurd cc
first_utf8 (b ∷ bs) a e = past_utf8 (b ∷ bs) 0 (λ lt. ltb-true b 128 a) e

pub empty_utf8 : is_utf8 [] ≡ true
empty_utf8 = is_utf8-from_IsUtf8 [] IsUtf8-nil

not_by : (text : List ℕ) (t : Bool) → is_utf8 text ≡ t → (IsUtf8 text → ⊥) → is_utf8 text ≡ false
not_by text true e none = absurd (none (IsUtf8-from_is_utf8 text e))
not_by text false e none = e

-- the test of UTF-8 where the text is none
pub not_utf8 : (text : List ℕ) → (IsUtf8 text → ⊥) → is_utf8 text ≡ false
not_utf8 text none = not_by text (is_utf8 text) refl none

-- the text behind ASCII bytes that it begins with
past_needle : (needle text : List ℕ) → list_all (λ b. ltb b 128) needle ≡ true → pointwise nat_eq needle (take (length needle) text) ≡ true → is_utf8 text ≡ true → is_utf8 (drop (length needle) text) ≡ true
past_needle [] text ascii begins e = e
past_needle (n ∷ ns) [] ascii begins e = absurd cc
past_needle (n ∷ ns) (b ∷ bs) ascii begins e =
    let a = both_true (ltb n 128) (list_all (λ b. ltb b 128) ns) ascii in
    let g = both_true (nat_eq n b) (pointwise nat_eq ns (take (length ns) bs)) begins in
    let low : b < 128 = omega (arith, ltb-true n 128 a.0, eqb-true n b g.0) in
    past_needle ns bs a.1 g.1 (past_utf8 (b ∷ bs) 0 (λ _. low) e)

marked : (t u : Bool) (text one two : List ℕ) → starts_with nat_eq text one ≡ t → starts_with nat_eq text two ≡ u → list_all (λ b. ltb b 128) one ≡ true → list_all (λ b. ltb b 128) two ≡ true
    → is_utf8 text ≡ true → is_utf8 (drop (cond t (length one) (cond u (length two) 0)) text) ≡ true
marked true u text one two begins_one begins_two a b e = past_needle one text a begins_one e
marked false true text one two begins_one begins_two a b e = past_needle two text b begins_two e
marked false false text one two begins_one begins_two a b e = e

pub total_utf8 : (text : List ℕ) → is_utf8 text ≡ true → is_utf8 (drop (total_mark text) text) ≡ true
total_utf8 text e = marked (starts_with nat_eq text (codes "@@")) (starts_with nat_eq text (codes "(@@)")) text (codes "@@") (codes "(@@)") refl refl refl refl e

pub unit_utf8 : (text : List ℕ) → is_utf8 text ≡ true → is_utf8 (drop (unit_mark text) text) ≡ true
unit_utf8 text e = marked (starts_with nat_eq text (codes "@")) (starts_with nat_eq text (codes "(@)")) text (codes "@") (codes "(@)") refl refl refl refl e

pub end_line_utf8 : is_utf8 (10 ∷ []) ≡ true
unfolding lib.Utf8.encode
end_line_utf8 = is_utf8-from_IsUtf8 (10 ∷ []) (10 ∷ [], (refl, refl))
