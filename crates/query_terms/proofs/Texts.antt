-- Texts cut at ASCII bytes.
use Rattle.std.proofs.Common.{◌≡◌, ℕ, zero, suc, ◌+◌, ◌-◌, ◌<◌, ◌≤◌, Bool, true, false, ◌==◌, not, List, [], length, get_or, take, drop, refl, arith, inl, inr}
use Rattle.std.specs.List.{prefix_len, take_while, before_first, after_first}
use Rattle.std.specs.Str.{is_utf8, IsUtf8, IsCharBoundary}
use Rattle.std.proofs.lemmas.Bool.{cases_lt}
use Rattle.std.proofs.lemmas.List.{drop_all}
use Rattle.std.proofs.lemmas.Bool.Decides.{nat_tests}
use Rattle.std.proofs.lemmas.List.Folds.{length-prefix_len}
use Rattle.std.proofs.lemmas.List.Sums.{prefix_len-le-length, prefix_len_passes, prefix_len_stops}
use Rattle.std.proofs.lemmas.Str.{IsUtf8-from_is_utf8, is_utf8-from_IsUtf8, IsUtf8-take, IsUtf8-drop, IsCharBoundary-after_ascii, IsCharBoundary-start, IsUtf8-nil}

pub prefix_count : (p : ℕ → Bool) (text : List ℕ) → length (take_while p text) ≡ prefix_len p text
prefix_count p text = length-prefix_len p text

pub prefix_bound : (p : ℕ → Bool) (text : List ℕ) → prefix_len p text ≤ length text
prefix_bound p text = prefix_len-le-length p text

-- a text may be cut before an ASCII byte and at its end
pub cut_before : (text : List ℕ) (n : ℕ) → n ≤ length text → (n < length text → get_or text n 0 < 128) → IsCharBoundary text n
cut_before text n le ascii = (le, λ lt high. absurd (omega (arith, ascii lt)))

pub front_utf8 : (text : List ℕ) (n : ℕ) → IsCharBoundary text n → is_utf8 text ≡ true → is_utf8 (take n text) ≡ true
front_utf8 text n cut e = is_utf8-from_IsUtf8 (take n text) (IsUtf8-take text n (IsUtf8-from_is_utf8 text e) cut)

pub rest_utf8 : (text : List ℕ) (n : ℕ) → IsCharBoundary text n → is_utf8 text ≡ true → is_utf8 (drop n text) ≡ true
rest_utf8 text n cut e = is_utf8-from_IsUtf8 (drop n text) (IsUtf8-drop text n (IsUtf8-from_is_utf8 text e) cut)

-- and after an ASCII byte
pub past_utf8 : (text : List ℕ) (n : ℕ) → (n < length text → get_or text n 0 < 128) → is_utf8 text ≡ true → is_utf8 (drop (n + 1) text) ≡ true
past_utf8 text n ascii e =
    elim (cases_lt n (length text)) [
      | inl lt ↦ rest_utf8 text (n + 1) (IsCharBoundary-after_ascii text n (IsUtf8-from_is_utf8 text e) lt (ascii lt)) e
      | inr le ↦ rw (drop_all (n + 1) text (omega arith)) (is_utf8-from_IsUtf8 [] IsUtf8-nil)
    ]

-- where those that pass go up to an ASCII byte
pub stop_ascii : (p : ℕ → Bool) (text : List ℕ) → ((b : ℕ) → p b ≡ false → b < 128) → prefix_len p text < length text → get_or text (prefix_len p text) 0 < 128
stop_ascii p text ascii lt = ascii (get_or text (prefix_len p text) 0) (prefix_len_stops p text 0 lt)

pub stop_cut : (p : ℕ → Bool) (text : List ℕ) → ((b : ℕ) → p b ≡ false → b < 128) → IsCharBoundary text (prefix_len p text)
stop_cut p text ascii = cut_before text (prefix_len p text) (prefix_len-le-length p text) (stop_ascii p text ascii)

-- where only ASCII bytes pass
pass_cut : (p : ℕ → Bool) (text : List ℕ) (n : ℕ) → n ≡ prefix_len p text → ((b : ℕ) → p b ≡ true → b < 128) → IsUtf8 text → IsCharBoundary text n
pass_cut p text zero e ascii u = IsCharBoundary-start text u
pass_cut p text (suc n) e ascii u =
    let passes : n < prefix_len p text = omega arith in
    let within : n < length text = omega (arith, prefix_len-le-length p text) in
    let k : n + 1 ≡ suc n = omega arith in
    rw (← k) (IsCharBoundary-after_ascii text n u within (ascii (get_or text n 0) (prefix_len_passes p text n 0 passes)))

pub after_passing : (p : ℕ → Bool) (text : List ℕ) → ((b : ℕ) → p b ≡ true → b < 128) → is_utf8 text ≡ true → is_utf8 (drop (prefix_len p text) text) ≡ true
after_passing p text ascii e = rest_utf8 text (prefix_len p text) (pass_cut p text (prefix_len p text) refl ascii (IsUtf8-from_is_utf8 text e)) e

equal_ascii : (byte : ℕ) → byte < 128 → (b : ℕ) → not (b == byte) ≡ false → b < 128
equal_ascii byte lt b e = grind (arith, nat_tests)

pub before_byte : (text : List ℕ) (byte : ℕ) → byte < 128 → is_utf8 text ≡ true → is_utf8 (before_first (λ b. b == byte) text) ≡ true
before_byte text byte lt e = front_utf8 text (prefix_len (λ b. not (b == byte)) text) (stop_cut (λ b. not (b == byte)) text (equal_ascii byte lt)) e

pub after_byte : (text : List ℕ) (byte : ℕ) → byte < 128 → is_utf8 text ≡ true → is_utf8 (after_first (λ b. b == byte) text) ≡ true
after_byte text byte lt e = past_utf8 text (prefix_len (λ b. not (b == byte)) text) (stop_ascii (λ b. not (b == byte)) text (equal_ascii byte lt)) e
