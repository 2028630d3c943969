-- Texts cut at their first comma or `=`.
use Rattle.std.proofs.Common.{◌≡◌, ℕ, ◌+◌, true, false, ◌==◌, Some, None, List, [], ◌∷◌, length, eqb, refl, sym, arith}
use Rattle.std.specs.List.{position_or_len, before_first, after_first}
use Rattle.report_options.specs.Values.{target_in}
use Rattle.std.proofs.lemmas.Bool.Decides.{nat_tests}
use Rattle.std.proofs.lemmas.List.{drop_all, take_all}

-- a text without the byte is its own front, and nothing is behind
pub uncut_front : (c : ℕ) (text : List ℕ) → position_or_len (λ b. eqb b c) text ≡ length text → text ≡ before_first (λ b. eqb b c) text
uncut_front c text e = sym (rw e (take_all (length text) text (omega arith)))

pub uncut_rest : (c : ℕ) (text : List ℕ) → position_or_len (λ b. eqb b c) text ≡ length text → [] ≡ after_first (λ b. eqb b c) text
uncut_rest c text e = sym (rw e (drop_all (length text + 1) text (omega arith)))

-- the empty text is no symbol
pub target_none : (text : List ℕ) → (length text == 0) ≡ true → target_in text ≡ None
target_none [] e = refl
target_none (b ∷ bs) e = absurd (grind (arith, nat_tests))

pub target_some : (text : List ℕ) → (length text == 0) ≡ false → target_in text ≡ Some text
target_some [] e = absurd cc
target_some (b ∷ bs) e = refl
