-- Texts that are read character by character, by their simple foldings.
use Rattle.std.proofs.Common.{◌≡◌, ℕ, Bool, true, false, List, [], ◌∷◌, ◌++◌, length, nat_eq, map, refl, sym, ap, ◌∙◌, arith}
use Rattle.std.specs.Char.{encode_utf8}
use Rattle.std.specs.List.{starts_with}
use Rattle.std.specs.Str.{bytes_eq, IsUtf8}
use Rattle.std.proofs.lemmas.Bool.Decides.{nat_tests}
use Rattle.std.proofs.lemmas.Str.{chars_past_char, chars-nil, IsUtf8-past_char}
use Rattle.unicode.specs.CaseFolding.{simple_fold}
use Rattle.query_terms.specs.Patterns.{folded, occurs}

folded_step : (t t' : List ℕ) (d : ℕ) → IsUtf8 t → t ≡ encode_utf8 d ++ t' → folded t ≡ simple_fold d ∷ folded t'
folded_step t t' d u e = ap (map simple_fold) (chars_past_char t t' d u e)

folded_none : (t : List ℕ) → length t ≡ 0 → folded t ≡ []
folded_none [] e = ap (map simple_fold) chars-nil
folded_none (x ∷ xs) e = absurd (omega arith)

pub rest_utf8 : (t t' : List ℕ) (d : ℕ) → IsUtf8 t → t ≡ encode_utf8 d ++ t' → IsUtf8 t'
rest_utf8 t t' d u e = IsUtf8-past_char t t' d u e

neq : (x y : ℕ) → (x ≡ y → ⊥) → nat_eq x y ≡ false
neq x y ne = grind (arith, nat_tests)

same : (x y : ℕ) → x ≡ y → nat_eq x y ≡ true
same x y e = grind (arith, nat_tests)

pub begins_differ : (whole : Bool) (t w t' w' : List ℕ) (c d : ℕ) → whole ≡ starts_with nat_eq (folded t) (folded w) → IsUtf8 t → IsUtf8 w → t ≡ encode_utf8 d ++ t' → w ≡ encode_utf8 c ++ w' → (simple_fold c ≡ simple_fold d → ⊥) → false ≡ whole
begins_differ whole t w t' w' c d e ut uw et ew ne =
    rw (e, folded_step t t' d ut et, folded_step w w' c uw ew, neq (simple_fold c) (simple_fold d) ne) refl

pub begins_same : (whole : Bool) (t w t' w' : List ℕ) (c d : ℕ) → whole ≡ starts_with nat_eq (folded t) (folded w) → IsUtf8 t → IsUtf8 w → t ≡ encode_utf8 d ++ t' → w ≡ encode_utf8 c ++ w' → simple_fold c ≡ simple_fold d → whole ≡ starts_with nat_eq (folded t') (folded w')
begins_same whole t w t' w' c d e ut uw et ew eq =
    rw (e, folded_step t t' d ut et, folded_step w w' c uw ew, same (simple_fold c) (simple_fold d) eq) refl

pub begins_short : (whole : Bool) (t w w' : List ℕ) (c : ℕ) → whole ≡ starts_with nat_eq (folded t) (folded w) → length t ≡ 0 → IsUtf8 w → w ≡ encode_utf8 c ++ w' → false ≡ whole
begins_short whole t w w' c e et uw ew = rw (e, folded_none t et, folded_step w w' c uw ew) refl

pub begins_all : (whole : Bool) (t w : List ℕ) → whole ≡ starts_with nat_eq (folded t) (folded w) → length w ≡ 0 → true ≡ whole
begins_all whole t w e ew = rw (e, folded_none w ew) refl

pub word_differ : (whole : Bool) (t w t' w' : List ℕ) (c d : ℕ) → whole ≡ bytes_eq (folded w) (folded t) → IsUtf8 t → IsUtf8 w → t ≡ encode_utf8 d ++ t' → w ≡ encode_utf8 c ++ w' → (simple_fold c ≡ simple_fold d → ⊥) → false ≡ whole
word_differ whole t w t' w' c d e ut uw et ew ne =
    rw (e, folded_step t t' d ut et, folded_step w w' c uw ew, neq (simple_fold c) (simple_fold d) ne) refl

pub word_same : (whole : Bool) (t w t' w' : List ℕ) (c d : ℕ) → whole ≡ bytes_eq (folded w) (folded t) → IsUtf8 t → IsUtf8 w → t ≡ encode_utf8 d ++ t' → w ≡ encode_utf8 c ++ w' → simple_fold c ≡ simple_fold d → whole ≡ bytes_eq (folded w') (folded t')
word_same whole t w t' w' c d e ut uw et ew eq =
    rw (e, folded_step t t' d ut et, folded_step w w' c uw ew, same (simple_fold c) (simple_fold d) eq) refl

pub word_short : (whole : Bool) (t w w' : List ℕ) (c : ℕ) → whole ≡ bytes_eq (folded w) (folded t) → length t ≡ 0 → IsUtf8 w → w ≡ encode_utf8 c ++ w' → false ≡ whole
word_short whole t w w' c e et uw ew = rw (e, folded_none t et, folded_step w w' c uw ew) refl

pub word_long : (whole : Bool) (t w t' : List ℕ) (d : ℕ) → whole ≡ bytes_eq (folded w) (folded t) → length w ≡ 0 → IsUtf8 t → t ≡ encode_utf8 d ++ t' → false ≡ whole
word_long whole t w t' d e ew ut et = rw (e, folded_none w ew, folded_step t t' d ut et) refl

pub word_all : (whole : Bool) (t w : List ℕ) → whole ≡ bytes_eq (folded w) (folded t) → length t ≡ 0 → length w ≡ 0 → true ≡ whole
word_all whole t w e et ew = rw (e, folded_none t et, folded_none w ew) refl

pub occurs_later : (whole : Bool) (t w t' : List ℕ) (d : ℕ) → whole ≡ occurs (folded w) (folded t) → IsUtf8 t → t ≡ encode_utf8 d ++ t' → starts_with nat_eq (folded t) (folded w) ≡ false → whole ≡ occurs (folded w) (folded t')
occurs_later whole t w t' d e ut et none =
    let first = folded_step t t' d ut et in
    let not_here : starts_with nat_eq (simple_fold d ∷ folded t') (folded w) ≡ false = rw (← first) none in
    rw (e, first, not_here) refl

occurs_front : (w t : List ℕ) → starts_with nat_eq t w ≡ true → occurs w t ≡ true
occurs_front w [] e = e
occurs_front w (c ∷ cs) e = rw e refl

pub occurs_here : (whole : Bool) (t w : List ℕ) → whole ≡ occurs (folded w) (folded t) → starts_with nat_eq (folded t) (folded w) ≡ true → true ≡ whole
occurs_here whole t w e here = sym (e ∙ occurs_front (folded w) (folded t) here)

pub occurs_none : (whole : Bool) (t w : List ℕ) → whole ≡ occurs (folded w) (folded t) → length t ≡ 0 → starts_with nat_eq (folded t) (folded w) ≡ false → false ≡ whole
occurs_none whole t w e et none =
    let empty = folded_none t et in
    let not_here : starts_with nat_eq [] (folded w) ≡ false = rw (← empty) none in
    rw (e, empty, not_here) refl
