-- The test of equal words.
use Rattle.std.proofs.Common.{◌≡◌, ℕ, suc, ◌+◌, ◌<◌, ◌≤◌, Bool, true, false, ◌==◌, ◌&&◌, ◌||◌, cond, List, [], ◌∷◌, length, get_or, drop, drop-cons, add-one, refl, sym, ap, ◌∙◌, arith}
use Rattle.std.proofs.lemmas.Bool.Decides.{nat_tests}
use Rattle.std.proofs.lemmas.List.{get_or-drop}
use Rattle.std.proofs.Math.ListN.{drop_of_length-le}
use Rattle.std.specs.Prelude.{slice_range}
use Rattle.hl_time.specs.Words.{same_text, blanks, run, is_blank, is_dots_at, words, word_of, word_start, word_stop, place_of}

pub same_bools : (a b : Bool) → (a ≡ true → b ≡ true) → (b ≡ true → a ≡ true) → a ≡ b
same_bools true b f g = sym (f refl)
same_bools false true f g = g refl
same_bools false false f g = refl

pub same_text_self : (text : List ℕ) → same_text text text ≡ true
same_text_self [] = refl
same_text_self (byte ∷ rest) = let below = same_text_self rest in grind (arith, nat_tests, below)

pub text_from_same : (a b : List ℕ) → same_text a b ≡ true → a ≡ b
text_from_same [] [] h = refl
text_from_same [] (b ∷ bs) h = cc
text_from_same (a ∷ rest) [] h = cc
text_from_same (a ∷ rest) (b ∷ bs) h = both a b rest bs (heads a b (same_text rest bs) h) (text_from_same rest bs (tails (a == b) (same_text rest bs) h)) where
  heads : (a b : ℕ) (t : Bool) → ((a == b) && t) ≡ true → a ≡ b
  heads a b t h = grind (arith, nat_tests)

  tails : (t s : Bool) → (t && s) ≡ true → s ≡ true
  tails true s h = h
  tails false s h = cc

  both : (a b : ℕ) (rest bs : List ℕ) → a ≡ b → rest ≡ bs → (a ∷ rest) ≡ (b ∷ bs)
  both a b rest bs e f = cc

-- the blanks and the word at a place
pub blanks_more : (text : List ℕ) (at : ℕ) → at < length text → is_blank (get_or text at 0) ≡ true → blanks (drop at text) ≡ blanks (drop (at + 1) text) + 1
unfolding blanks
blanks_more text at inside blank =
    let next : at + 1 ≡ suc at = omega arith in
    rw (drop-cons text at 0) (rw blank (omega (arith, ap (λ i. blanks (drop i text)) next)))

pub blanks_none : (text : List ℕ) (at : ℕ) → at < length text → is_blank (get_or text at 0) ≡ false → blanks (drop at text) ≡ 0
unfolding blanks
blanks_none text at inside blank = rw (drop-cons text at 0) (rw blank refl)

pub blanks_end : (text : List ℕ) (at : ℕ) → length text ≤ at → blanks (drop at text) ≡ 0
unfolding blanks
blanks_end text at past = rw (drop_of_length-le text past)

after_one : (text : List ℕ) (at : ℕ) → get_or (drop (suc at) text) 0 0 ≡ get_or text (at + 1) 0
after_one text at = let same : suc at + 0 ≡ at + 1 = omega arith in get_or-drop (suc at) text 0 0 ∙ ap (λ i. get_or text i 0) same

stopped : (b : Bool) (n : ℕ) → cond (b || true) 0 (suc n) ≡ 0
stopped true n = refl
stopped false n = refl

pub run_more : (text : List ℕ) (at : ℕ) → at < length text → is_blank (get_or text at 0) ≡ false → is_dots_at text at ≡ false → run (drop at text) ≡ run (drop (at + 1) text) + 1
unfolding run
run_more text at inside blank dots =
    let to : at + 1 ≡ suc at = omega arith in
    let next : get_or (drop (suc at) text) 0 0 ≡ get_or text (at + 1) 0 = after_one text at in
    rw (drop-cons text at 0) (rw (blank, next, dots) (omega (arith, ap (λ i. run (drop i text)) to)))

pub run_blank : (text : List ℕ) (at : ℕ) → at < length text → is_blank (get_or text at 0) ≡ true → run (drop at text) ≡ 0
unfolding run
run_blank text at inside blank = rw (drop-cons text at 0) (rw blank refl)

pub run_dots : (text : List ℕ) (at : ℕ) → at < length text → is_dots_at text at ≡ true → run (drop at text) ≡ 0
unfolding run
run_dots text at inside dots =
    let next : get_or (drop (suc at) text) 0 0 ≡ get_or text (at + 1) 0 = after_one text at in
    rw (drop-cons text at 0) (rw (next, dots) (stopped (is_blank (get_or text at 0)) (run (drop (suc at) text))))

pub run_end : (text : List ℕ) (at : ℕ) → length text ≤ at → run (drop at text) ≡ 0
unfolding run
run_end text at past = rw (drop_of_length-le text past)

pub words_next : (n : ℕ) (text : List ℕ) (at : ℕ) → words (n + 1) text at ≡ word_of (slice_range text (word_start text at) (word_stop text (word_start text at))) ∷ words n text (word_stop text (word_start text at))
unfolding words
words_next n text at = rw (add-one n)

pub words_none : (text : List ℕ) (at : ℕ) → words 0 text at ≡ []
unfolding words
words_none text at = refl

pub place_next : (n : ℕ) (text : List ℕ) (at : ℕ) → place_of (n + 1) text at ≡ place_of n text (word_stop text (word_start text at))
unfolding place_of
place_next n text at = rw (add-one n)

pub place_none : (text : List ℕ) (at : ℕ) → place_of 0 text at ≡ word_start text at
unfolding place_of
place_none text at = refl
