-- A text that is cut, character by character.
use Rattle.std.proofs.Common.{◌≡◌, ℕ, ◌-◌, ◌<◌, ◌≤◌, nat_le, Bool, true, false, cond, List, [], ◌∷◌, ◌++◌, length, sym, ap, ◌∙◌, arith}
use Rattle.std.specs.Char.{encode_utf8}
use Rattle.std.specs.List.{flat_map}
use Rattle.std.specs.Prelude.{chars}
use Rattle.std.specs.Str.{IsUtf8}
use Rattle.std.proofs.lemmas.Bool.Decides.{nat_tests}
use Rattle.std.proofs.lemmas.List.{append-nil, append_assoc}
use Rattle.std.proofs.lemmas.Str.{chars_past_char, chars-nil}
use Rattle.register_report.specs.Fields.{columns_of, fitting, cut}

first : (left : ℕ) (t t' : List ℕ) (c : ℕ) → IsUtf8 t → t ≡ encode_utf8 c ++ t' → cut left t ≡ flat_map encode_utf8 (fitting left (c ∷ chars t'))
first left t t' c u e = ap (λ cs. flat_map encode_utf8 (fitting left cs)) (chars_past_char t t' c u e)

with_room : (b : Bool) (left : ℕ) (c : ℕ) (cs : List ℕ) → nat_le (columns_of c) left ≡ b → fitting left (c ∷ cs) ≡ cond b (c ∷ fitting (left - columns_of c) cs) []
with_room b left c cs e = ap (λ (b : Bool). cond b (c ∷ fitting (left - columns_of c) cs) []) e

le_true : (a b : ℕ) → a ≤ b → nat_le a b ≡ true
le_true a b h = grind (arith, nat_tests, h)

le_false : (a b : ℕ) → b < a → nat_le a b ≡ false
le_false a b h = grind (arith, nat_tests, h)

module _ (whole front : List ℕ) (left columns : ℕ) (t t' : List ℕ) (c : ℕ) (so_far : front ++ cut left t ≡ whole) (u : IsUtf8 t) (e : t ≡ encode_utf8 c ++ t') (is : columns ≡ columns_of c) where
  -- a character that has room
  pub fits_more : (new : List ℕ) → new ≡ front ++ encode_utf8 c → columns ≤ left → new ++ cut (left - columns) t' ≡ whole
  fits_more new pushed room =
      let own : nat_le (columns_of c) left ≡ true = ap (λ n. nat_le n left) (sym is) ∙ le_true columns left room in
      ap (λ x. x ++ cut (left - columns) t') pushed
      ∙ append_assoc front (encode_utf8 c) (cut (left - columns) t')
      ∙ ap (λ n. front ++ (encode_utf8 c ++ cut (left - n) t')) is
      ∙ ap (λ x. front ++ x) (sym (first left t t' c u e ∙ ap (flat_map encode_utf8) (with_room true left c (chars t') own)))
      ∙ so_far

  -- one that has none
  pub fits_not : left < columns → front ≡ whole
  fits_not none =
      let own : nat_le (columns_of c) left ≡ false = ap (λ n. nat_le n left) (sym is) ∙ le_false columns left none in
      sym (append-nil front)
      ∙ ap (λ x. front ++ x) (sym (first left t t' c u e ∙ ap (flat_map encode_utf8) (with_room false left c (chars t') own)))
      ∙ so_far

-- the text is at its end
pub fits_all : (whole front : List ℕ) (left : ℕ) (t : List ℕ) → front ++ cut left t ≡ whole → length t ≡ 0 → front ≡ whole
fits_all whole front left [] so_far e = sym (append-nil front) ∙ ap (λ cs. front ++ flat_map encode_utf8 (fitting left cs)) (sym chars-nil) ∙ so_far
fits_all whole front left (x ∷ xs) so_far e = absurd (omega (arith, e))
