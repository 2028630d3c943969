-- What follows a word that a text begins with.
use Rattle.std.proofs.Common.{◌≡◌, ℕ, ◌+◌, ◌<◌, ◌≤◌, true, List, [], ◌∷◌, length, get_or, drop, arith}
use Rattle.std.specs.Str.{is_utf8}
use Rattle.std.proofs.lemmas.List.{get_or-drop, length-drop}
use Rattle.entry_reader.specs.Heads.{ends_word}
use Rattle.entry_reader.proofs.Texts.{cut_before, rest_utf8, white_below}

first_ascii : (text : List ℕ) → ends_word text ≡ true → 0 < length text → get_or text 0 0 < 128
first_ascii [] e lt = absurd (omega arith)
first_ascii (b ∷ bs) e lt = white_below b e

-- a text may be cut where a word ends
pub past_word : (text : List ℕ) (n : ℕ) → n ≤ length text → ends_word (drop n text) ≡ true → is_utf8 text ≡ true → is_utf8 (drop n text) ≡ true
past_word text n le ends e =
    let len = length-drop n text in
    rest_utf8 text n (cut_before text n le (λ lt. (let k : n + 0 ≡ n = omega arith in rw (← k, ← get_or-drop n text 0 0) (first_ascii (drop n text) ends (omega (arith, len)))))) e
