-- Texts in UTF-8 cut where white space ends or begins.
use Rattle.std.proofs.Common.{◌≡◌, ℕ, zero, suc, ◌+◌, ◌-◌, ◌<◌, ◌≤◌, Bool, true, false, List, [], length, get_or, take, drop, refl, arith}
use Rattle.std.specs.List.{prefix_len, suffix_len, take_while}
use Rattle.std.specs.Str.{is_utf8, IsUtf8, IsCharBoundary}
use Rattle.hl_base.specs.Ascii.{after_white, before_white, is_white}
use Rattle.std.proofs.lemmas.Bool.Decides.{nat_tests}
use Rattle.std.proofs.lemmas.List.Folds.{length-prefix_len}
use Rattle.std.proofs.lemmas.List.Sums.{prefix_len-le-length, prefix_len_passes, suffix_len_is}
use Rattle.std.proofs.lemmas.Str.{IsUtf8-from_is_utf8, is_utf8-from_IsUtf8, IsUtf8-take, IsUtf8-drop, IsCharBoundary-after_ascii, IsCharBoundary-start, IsUtf8-nil}

pub prefix_count : (p : ℕ → Bool) (text : List ℕ) → length (take_while p text) ≡ prefix_len p text
prefix_count p text = length-prefix_len p text

pub prefix_bound : (p : ℕ → Bool) (text : List ℕ) → prefix_len p text ≤ length text
prefix_bound p text = prefix_len-le-length p text

-- a text may be cut before an ASCII byte and at its end
pub cut_before : (text : List ℕ) (n : ℕ) → n ≤ length text → (n < length text → get_or text n 0 < 128) → IsCharBoundary text n
cut_before text n le ascii = (le, λ lt high. absurd (omega (arith, ascii lt)))

pub front_utf8 : (text : List ℕ) (n : ℕ) → IsCharBoundary text n → is_utf8 text ≡ true → is_utf8 (take n text) ≡ true
front_utf8 text n cut e = is_utf8-from_IsUtf8 (take n text) (IsUtf8-take text n (IsUtf8-from_is_utf8 text e) cut)

pub rest_utf8 : (text : List ℕ) (n : ℕ) → IsCharBoundary text n → is_utf8 text ≡ true → is_utf8 (drop n text) ≡ true
rest_utf8 text n cut e = is_utf8-from_IsUtf8 (drop n text) (IsUtf8-drop text n (IsUtf8-from_is_utf8 text e) cut)

-- where only ASCII bytes pass
pass_cut : (p : ℕ → Bool) (text : List ℕ) (n : ℕ) → n ≡ prefix_len p text → ((b : ℕ) → p b ≡ true → b < 128) → IsUtf8 text → IsCharBoundary text n
pass_cut p text zero e ascii u = IsCharBoundary-start text u
pass_cut p text (suc n) e ascii u =
    let passes : n < prefix_len p text = omega arith in
    let within : n < length text = omega (arith, prefix_len-le-length p text) in
    let k : n + 1 ≡ suc n = omega arith in
    rw (← k) (IsCharBoundary-after_ascii text n u within (ascii (get_or text n 0) (prefix_len_passes p text n 0 passes)))

pub after_passing : (p : ℕ → Bool) (text : List ℕ) → ((b : ℕ) → p b ≡ true → b < 128) → is_utf8 text ≡ true → is_utf8 (drop (prefix_len p text) text) ≡ true
after_passing p text ascii e = rest_utf8 text (prefix_len p text) (pass_cut p text (prefix_len p text) refl ascii (IsUtf8-from_is_utf8 text e)) e

-- a text that ends where only white space follows
pub white_below : (b : ℕ) → is_white b ≡ true → b < 128
white_below b e = grind (arith, nat_tests)

pub after_white_utf8 : (text : List ℕ) → is_utf8 text ≡ true → is_utf8 (after_white text) ≡ true
after_white_utf8 text e = after_passing is_white text white_below e

-- the end of a text from which on all is white space
pub end_utf8 : (text : List ℕ) (n : ℕ) → n ≤ length text → ((k : ℕ) → n ≤ k → k < length text → is_white (get_or text k 0) ≡ true) → is_utf8 text ≡ true → is_utf8 (take n text) ≡ true
end_utf8 text n le white e = front_utf8 text n (cut_before text n le (λ lt. white_below (get_or text n 0) (white n (omega arith) lt))) e

pub end_is : (text : List ℕ) (n : ℕ) → n ≤ length text → ((k : ℕ) → n ≤ k → k < length text → is_white (get_or text k 0) ≡ true) → (0 < n → is_white (get_or text (n - 1) 0) ≡ false) → take n text ≡ before_white text
end_is text n le white solid =
    let e = suffix_len_is is_white text n 0 le white solid in
    let k : length text - suffix_len is_white text ≡ n = omega arith in
    rw k refl

pub no_end_is : (text : List ℕ) (n : ℕ) → n ≤ 0 → ((k : ℕ) → n ≤ k → k < length text → is_white (get_or text k 0) ≡ true) → [] ≡ before_white text
no_end_is text n none white = end_is text 0 (omega arith) (λ k _ lt. white k (omega arith) lt) (λ h. absurd (omega arith))

pub empty_utf8 : is_utf8 [] ≡ true
empty_utf8 = is_utf8-from_IsUtf8 [] IsUtf8-nil
