-- Words under `not:`.
use Rattle.std.proofs.Common.{◌≡◌, ℕ, ◌+◌, ◌<◌, true, false, List, [], ◌∷◌, drop, refl, arith}
use Rattle.std.specs.Str.{is_utf8}
use Rattle.std.proofs.lemmas.Bool.Decides.{nat_tests}
use Rattle.query_terms.proofs.Texts.{past_utf8}
use Rattle.query_terms.specs.Reading.{begins_not, nots_of, bare}

pub nots_more : (text : List ℕ) → begins_not text ≡ true → nots_of text ≡ nots_of (drop 4 text) + 1
nots_more [] e = absurd cc
nots_more (a ∷ []) e = absurd (grind (arith, nat_tests, e))
nots_more (a ∷ b ∷ []) e = absurd (grind (arith, nat_tests, e))
nots_more (a ∷ b ∷ c ∷ []) e = absurd (grind (arith, nat_tests, e))
nots_more (a ∷ b ∷ c ∷ d ∷ rest) e = rw e refl

pub bare_more : (text : List ℕ) → begins_not text ≡ true → bare text ≡ bare (drop 4 text)
bare_more [] e = absurd cc
bare_more (a ∷ []) e = absurd (grind (arith, nat_tests, e))
bare_more (a ∷ b ∷ []) e = absurd (grind (arith, nat_tests, e))
bare_more (a ∷ b ∷ c ∷ []) e = absurd (grind (arith, nat_tests, e))
bare_more (a ∷ b ∷ c ∷ d ∷ rest) e = rw e refl

pub nots_none : (text : List ℕ) → begins_not text ≡ false → nots_of text ≡ 0
nots_none [] e = refl
nots_none (a ∷ []) e = refl
nots_none (a ∷ b ∷ []) e = refl
nots_none (a ∷ b ∷ c ∷ []) e = refl
nots_none (a ∷ b ∷ c ∷ d ∷ rest) e = rw e refl

pub bare_none : (text : List ℕ) → begins_not text ≡ false → bare text ≡ text
bare_none [] e = refl
bare_none (a ∷ []) e = refl
bare_none (a ∷ b ∷ []) e = refl
bare_none (a ∷ b ∷ c ∷ []) e = refl
bare_none (a ∷ b ∷ c ∷ d ∷ rest) e = rw e refl

-- the text behind `not:`
pub not_utf8 : (text : List ℕ) → begins_not text ≡ true → is_utf8 text ≡ true → is_utf8 (drop 4 text) ≡ true
not_utf8 [] e u = absurd cc
not_utf8 (a ∷ []) e u = absurd (grind (arith, nat_tests, e))
not_utf8 (a ∷ b ∷ []) e u = absurd (grind (arith, nat_tests, e))
not_utf8 (a ∷ b ∷ c ∷ []) e u = absurd (grind (arith, nat_tests, e))
not_utf8 (a ∷ b ∷ c ∷ d ∷ rest) e u =
    let low : d < 128 = grind (arith, nat_tests, e) in
    past_utf8 (a ∷ b ∷ c ∷ d ∷ rest) 3 (λ _. low) u
