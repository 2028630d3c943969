-- Texts without white space and line ends at their ends.
use Rattle.std.proofs.Common.{◌≡◌, ℕ, ◌-◌, ◌<◌, ◌≤◌, true, false, List, [], length, get_or, take, refl, arith}
use Rattle.std.specs.List.{suffix_len}
use Rattle.std.specs.Str.{is_utf8}
use Rattle.std.proofs.lemmas.Bool.Decides.{nat_tests}
use Rattle.std.proofs.lemmas.List.Sums.{suffix_len_is}
use Rattle.entry_reader.proofs.Texts.{after_passing, cut_before, front_utf8}
use Rattle.csv_entries.specs.Spaces.{is_space, after_space, before_space}

pub space_below : (b : ℕ) → is_space b ≡ true → b < 128
space_below b e = grind (arith, nat_tests)

pub after_space_utf8 : (text : List ℕ) → is_utf8 text ≡ true → is_utf8 (after_space text) ≡ true
after_space_utf8 text e = after_passing is_space text space_below e

-- the end of a text from which on all is white
pub end_utf8 : (text : List ℕ) (n : ℕ) → n ≤ length text → ((k : ℕ) → n ≤ k → k < length text → is_space (get_or text k 0) ≡ true)
    → is_utf8 text ≡ true → is_utf8 (take n text) ≡ true
end_utf8 text n le white e = front_utf8 text n (cut_before text n le (λ lt. space_below (get_or text n 0) (white n (omega arith) lt))) e

pub end_is : (text : List ℕ) (n : ℕ) → n ≤ length text → ((k : ℕ) → n ≤ k → k < length text → is_space (get_or text k 0) ≡ true)
    → (0 < n → is_space (get_or text (n - 1) 0) ≡ false) → take n text ≡ before_space text
end_is text n le white solid =
    let e = suffix_len_is is_space text n 0 le white solid in
    let k : length text - suffix_len is_space text ≡ n = omega arith in
    rw k refl

pub no_end_is : (text : List ℕ) (n : ℕ) → n ≤ 0 → ((k : ℕ) → n ≤ k → k < length text → is_space (get_or text k 0) ≡ true) → [] ≡ before_space text
no_end_is text n none white = end_is text 0 (omega arith) (λ k _ lt. white k (omega arith) lt) (λ h. absurd (omega arith))
