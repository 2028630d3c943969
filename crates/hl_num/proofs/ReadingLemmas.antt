-- What the reading of a number does at each byte.
use Rattle.std.proofs.Common.{ℕ, pos, ◌≡◌, ◌+◌, ◌-◌, ◌*◌, ◌^◌, ◌<◌, ◌≤◌, Bool, true, false, cond, nat_lt, if◌then◌else◌, List, [], ◌∷◌, ◌++◌, length, get_or, take, drop, Option, Some, None, refl, sym, ap, ◌∙◌, arith, append-nil}
use Rattle.std.specs.List.{filter, find}
use Rattle.std.specs.Char.{digit_value}
use Rattle.std.specs.Str.Parse.{digits_value, digits_value_after}
use Rattle.std.proofs.lemmas.Bool.Decides.{nat_tests}
use Rattle.std.proofs.lemmas.Int.Digits.{digits_value_push}
use Rattle.std.proofs.lemmas.List.{take-append-drop}
use Rattle.std.proofs.lemmas.List.Elements.{filter_more, filter-append}
use Rattle.hl_num.specs.Reading.{is_digit, is_mark, mantissa_of, value_with, is_written, number_with, whole_len, group_sizes, first_size, rest_size}

-- the value of a digit
pub digit_of : (b : ℕ) → is_digit b ≡ true → digit_value b ≡ b - 48
digit_of b h = grind (arith, nat_tests)

-- one more byte of a value
mantissa-push : (b : ℕ) (ds : List ℕ) (d : Bool) → is_digit b ≡ d → digits_value 10 (ds ++ cond d (b ∷ []) []) ≡ (if d then digits_value 10 ds * 10 + (b - 48) else digits_value 10 ds)
mantissa-push b ds true h = digits_value_push 10 ds b ∙ ap (λ (x : ℕ). digits_value 10 ds * 10 + x) (digit_of b h)
mantissa-push b ds false h = ap (digits_value 10) (append-nil ds)

pub mantissa_of-more : (text : List ℕ) (i : ℕ) → i < length text → mantissa_of (take (i + 1) text) ≡ value_with (mantissa_of (take i text)) (get_or text i 0)
mantissa_of-more text i inside =
    ap (digits_value 10) (filter_more is_digit text i 0 inside)
    ∙ mantissa-push (get_or text i 0) (filter is_digit (take i text)) (is_digit (get_or text i 0)) refl

pub after-append : (n : ℕ) (xs ys : List ℕ) → digits_value_after 10 n (xs ++ ys) ≡ digits_value_after 10 (digits_value_after 10 n xs) ys
after-append n [] ys = refl
after-append n (x ∷ xs) ys = after-append (n * 10 + digit_value x) xs ys

after-ge : (n : ℕ) (ys : List ℕ) → n ≤ digits_value_after 10 n ys
after-ge n [] = omega arith
after-ge n (y ∷ ys) = let more = after-ge (n * 10 + digit_value y) ys in omega (arith, more)

-- more bytes only make the value larger
pub mantissa_of-ge : (text : List ℕ) (i : ℕ) → mantissa_of (take i text) ≤ mantissa_of text
mantissa_of-ge text i =
    let whole : mantissa_of text ≡ digits_value_after 10 (mantissa_of (take i text)) (filter is_digit (drop i text)) =
    ap mantissa_of (sym (take-append-drop i text))
    ∙ ap (digits_value 10) (filter-append is_digit (take i text) (drop i text))
    ∙ after-append 0 (filter is_digit (take i text)) (filter is_digit (drop i text)) in
    rw whole (after-ge (mantissa_of (take i text)) (filter is_digit (drop i text)))

-- a front that is too large makes the whole too large
pub mantissa_of-large : (text : List ℕ) (i value m : ℕ) → i < length text → value ≡ mantissa_of (take i text) → m ≤ value_with value (get_or text i 0) → nat_lt (mantissa_of text) m ≡ false
mantissa_of-large text i value m inside so_far large =
    let stepped = ap (λ (v : ℕ). value_with v (get_or text i 0)) so_far ∙ sym (mantissa_of-more text i inside) in
    let more = mantissa_of-ge text (i + 1) in
    let above : m ≤ mantissa_of text = omega (arith, stepped, large, more) in
    not_less (mantissa_of text) m above
  where
    not_less : (x y : ℕ) → y ≤ x → nat_lt x y ≡ false
    not_less x y h = grind (arith, nat_tests)

-- a text that isn't written as a number is none
pub number_with-unwritten : (text whole decimals : List ℕ) (mark : Option ℕ) → whole ≡ take (whole_len text mark) text → decimals ≡ drop (whole_len text mark + 1) text
    → is_written text whole decimals ≡ false → None ≡ number_with text mark
unfolding number_with
number_with-unwritten text whole decimals mark is_whole is_decimals unwritten = rw (← is_whole, ← is_decimals, unwritten) refl

-- nor is one whose digits are too many
pub number_with-large : (text whole decimals : List ℕ) (mark : Option ℕ) → whole ≡ take (whole_len text mark) text → decimals ≡ drop (whole_len text mark + 1) text
    → is_written text whole decimals ≡ true → nat_lt (mantissa_of text) (2 ^ 127) ≡ false → None ≡ number_with text mark
unfolding number_with
number_with-large text whole decimals mark is_whole is_decimals written large = rw (← is_whole, ← is_decimals, written, large) refl

-- any other is this one
pub number_with-some : (text whole decimals : List ℕ) (mark : Option ℕ) → whole ≡ take (whole_len text mark) text → decimals ≡ drop (whole_len text mark + 1) text
    → is_written text whole decimals ≡ true → nat_lt (mantissa_of text) (2 ^ 127) ≡ true
    → number_with text mark ≡ Some (record {
      value = record { mantissa = pos (mantissa_of text); places = length decimals };
      mark = mark;
      group = find is_mark whole;
      first = first_size (group_sizes whole);
      rest = rest_size (group_sizes whole);
    })
unfolding number_with
number_with-some text whole decimals mark is_whole is_decimals written small = rw (← is_whole, ← is_decimals, written, small) refl

-- what an answer under a test tells
pub test-none : (b : Bool) (x : ℕ) → None ≡ (if b then Some x else None) → b ≡ false
test-none true x e = absurd (some_is_some e)
  where
    some_is_some : None ≡ Some x → ⊥
    some_is_some h = cc
test-none false x e = refl

test-some : (b : Bool) (x y : ℕ) → Some y ≡ (if b then Some x else None) → (b ≡ true) × (y ≡ x)
test-some true x y e = (refl, cc)
test-some false x y e = absurd (none_is_none e)
  where
    none_is_none : Some y ≡ None → ⊥
    none_is_none h = cc

below_from_test : (x m : ℕ) → nat_lt x m ≡ true → x < m
below_from_test x m h = grind (arith, nat_tests)

pub test-below : (x y m : ℕ) → Some y ≡ (if nat_lt x m then Some x else None) → (nat_lt x m ≡ true) × (y ≡ x) × (y < m)
test-below x y m e =
    let both = test-some (nat_lt x m) x y e in
    let small : x < m = below_from_test x m both.0 in
    (both.0, both.1, rw both.1 small)
