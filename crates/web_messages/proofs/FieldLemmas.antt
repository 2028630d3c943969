-- Digits that go on, and the words of a value one after another.
use Rattle.std.proofs.Common.{◌≡◌, ℕ, ◌+◌, ◌*◌, ◌<◌, ◌≤◌, Bool, true, false, ltb, List, [], ◌∷◌, length, take, drop, Some, None, cond, refl, ◌∙◌, arith, ◌||◌, inl, inr, take_all}
use Rattle.std.proofs.Math.Bool.{or-false}
use Rattle.std.proofs.lemmas.Bool.{cases_lt}
use Rattle.std.proofs.lemmas.List.Sums.{fails_before_first}
use Rattle.std.proofs.lemmas.Bool.Decides.{nat_tests}
use Rattle.std.proofs.lemmas.List.Splits.{slice_split_first, slice_split_none}
use Rattle.std.specs.Str.Parse.{digits_value_after}
use Rattle.std.specs.Char.{digit_value}
use Rattle.std.specs.List.{position_or_len, All}
use Rattle.web_messages.specs.Fields.{is_between, is_word, close, has_close}

-- more digits make no smaller number
pub grows : (n : ℕ) (ds : List ℕ) → n ≤ digits_value_after 10 n ds
grows n [] = omega arith
grows n (d ∷ ds) = omega (arith, grows (n * 10 + digit_value d) ds)

-- a number from a bound on isn't below it
pub past : (n bound : ℕ) → bound ≤ n → None ≡ cond (ltb n bound) (Some n) None
past n bound h = grind (arith, nat_tests)

-- the word close is the first word, or among those after the first mark between words
pub close_first : (text : List ℕ) → position_or_len is_between text < length text
    → has_close text ≡ (is_word close (take (position_or_len is_between text) text) || has_close (drop (position_or_len is_between text + 1) text))
close_first text h = rw (slice_split_first is_between text 0 h) refl

-- or the only word
pub close_only : (text : List ℕ) → position_or_len is_between text ≡ length text
    → has_close text ≡ is_word close (take (position_or_len is_between text) text)
close_only text h =
    let none : All (λ b. is_between b ≡ false) text = λ k d l. fails_before_first is_between text k d (rw h l) in
    rw (slice_split_none is_between text none, h, take_all (length text) text (omega arith)) (or-false _)

-- the first word is close
pub close_now : (text : List ℕ) (n : ℕ) → n ≡ position_or_len is_between text → n ≤ length text
    → is_word close (take n text) ≡ true → has_close text ≡ true
close_now text n e l h =
    elim (cases_lt n (length text)) [
      | inl below ↦ close_first text (rw (← e) below) ∙ (let k : is_word close (take (position_or_len is_between text) text) ≡ true = rw (← e) h in rw k refl)
      | inr above ↦ close_only text (omega (arith, e)) ∙ rw (← e) h
    ]

-- no word is close where the only one isn't
pub close_never : (text : List ℕ) (n : ℕ) → n ≡ position_or_len is_between text → n ≡ length text
    → is_word close (take n text) ≡ false → has_close text ≡ false
close_never text n e l h = close_only text (cc) ∙ rw (← e) h

-- where the first word isn't close, those after it decide
pub close_later : (text : List ℕ) (n : ℕ) → n ≡ position_or_len is_between text → n < length text
    → is_word close (take n text) ≡ false → has_close text ≡ has_close (drop (n + 1) text)
close_later text n e l h =
    close_first text (rw (← e) l) ∙ (let k : is_word close (take (position_or_len is_between text) text) ≡ false = rw (← e) h in rw (k, ← e) refl)

-- what was found of a word that is a front
pub found_of : (word fore : List ℕ) (r b : Bool) → word ≡ fore → r ≡ is_word close word → r ≡ b → is_word close fore ≡ b
found_of word fore r b e f h = cc
