-- Texts cut behind the name of a column, character by character.
use Rattle.std.proofs.Common.{◌≡◌, ℕ, ◌+◌, ◌-◌, true, false, List, [], ◌∷◌, ◌++◌, length, take, drop, refl, sym, ap, ◌∙◌, arith, inl, inr}
use Rattle.std.specs.Char.{encode_utf8, len_utf8}
use Rattle.std.specs.Str.{chars, is_utf8, IsUtf8}
use Rattle.std.proofs.lemmas.Bool.{cases_lt}
use Rattle.std.proofs.lemmas.List.{drop-drop, length-drop, take_all}
use Rattle.std.proofs.lemmas.Str.{chars_past_char, chars-nil, drop_past_char, IsCharBoundary-from_drop, IsUtf8-from_is_utf8}
use Rattle.entry_reader.proofs.Texts.{front_utf8}
use Rattle.csv_rules.specs.Words.{is_name_char, run_len, column_len, column_name, after_column_name}

none_before : (n : ℕ) → 0 + n ≡ n
none_before n = omega arith

run_stop : (c : ℕ) (cs : List ℕ) → is_name_char c ≡ false → run_len (c ∷ cs) ≡ 0
run_stop c cs e = rw e refl

run_more : (c : ℕ) (cs : List ℕ) → is_name_char c ≡ true → run_len (c ∷ cs) ≡ len_utf8 c + run_len cs
run_more c cs e = rw e refl

len_none : (t : List ℕ) → length t ≡ 0 → column_len t ≡ 0
unfolding column_len
len_none [] e = ap run_len chars-nil
len_none (x ∷ xs) e = absurd (omega arith)

len_stop : (t t' : List ℕ) (c : ℕ) → IsUtf8 t → t ≡ encode_utf8 c ++ t' → is_name_char c ≡ false → column_len t ≡ 0
unfolding column_len
len_stop t t' c u e other = ap run_len (chars_past_char t t' c u e) ∙ run_stop c (chars t') other

len_more : (t t' : List ℕ) (c : ℕ) → IsUtf8 t → t ≡ encode_utf8 c ++ t' → is_name_char c ≡ true → column_len t ≡ len_utf8 c + column_len t'
unfolding column_len
len_more t t' c u e named = ap run_len (chars_past_char t t' c u e) ∙ run_more c (chars t') named

past_char : (t t' : List ℕ) (c : ℕ) → t ≡ encode_utf8 c ++ t' → drop (len_utf8 c) t ≡ t'
past_char t t' c e = ap (λ (n : ℕ). drop n t) (sym (none_before (len_utf8 c))) ∙ drop_past_char t t' 0 c e

-- a name ends at the end of a text
pub past_none : (whole t : List ℕ) → after_column_name whole ≡ after_column_name t → length t ≡ 0 → t ≡ after_column_name whole
past_none whole t e none = sym (e ∙ ap (λ (n : ℕ). drop n t) (len_none t none))

-- and before a character of another kind
pub past_stop : (whole t t' : List ℕ) (c : ℕ) → after_column_name whole ≡ after_column_name t → IsUtf8 t → t ≡ encode_utf8 c ++ t' → is_name_char c ≡ false → t ≡ after_column_name whole
past_stop whole t t' c e u is other = sym (e ∙ ap (λ (n : ℕ). drop n t) (len_stop t t' c u is other))

-- and goes on past any other
pub past_more : (whole t t' : List ℕ) (c : ℕ) → after_column_name whole ≡ after_column_name t → IsUtf8 t → t ≡ encode_utf8 c ++ t' → is_name_char c ≡ true → after_column_name whole ≡ after_column_name t'
past_more whole t t' c e u is named =
    e ∙ (ap (λ (n : ℕ). drop n t) (len_more t t' c u is named)
    ∙ (sym (drop-drop (column_len t') (len_utf8 c) t) ∙ ap (drop (column_len t')) (past_char t t' c is)))

front_by : (n : ℕ) (text : List ℕ) → take (length text - length (drop n text)) text ≡ take n text
front_by n text =
    elim (cases_lt n (length text)) [
      | inl lt ↦ let k : length text - length (drop n text) ≡ n = omega (arith, length-drop n text) in rw k refl
      | inr le ↦ take_all (length text - length (drop n text)) text (omega (arith, length-drop n text)) ∙ sym (take_all n text le)
    ]

-- what stands before the rest is the name
pub name_is : (text rest name : List ℕ) (mid : ℕ) → rest ≡ after_column_name text → mid ≡ length text - length rest → name ≡ take mid text → name ≡ column_name text
name_is text rest name mid e m n =
    n ∙ (ap (λ (k : ℕ). take k text) m ∙ (ap (λ (l : List ℕ). take (length text - length l) text) e ∙ front_by (column_len text) text))

front_text : (n : ℕ) (text : List ℕ) → is_utf8 text ≡ true → is_utf8 (drop n text) ≡ true → is_utf8 (take n text) ≡ true
front_text n text u e =
    elim (cases_lt n (length text)) [
      | inl lt ↦ front_utf8 text n (IsCharBoundary-from_drop text n (omega arith) (IsUtf8-from_is_utf8 (drop n text) e)) u
      | inr le ↦ rw (take_all n text le) u
    ]

pub name_utf8 : (text rest name : List ℕ) (mid : ℕ) → rest ≡ after_column_name text → mid ≡ length text - length rest → name ≡ take mid text → is_utf8 text ≡ true → is_utf8 rest ≡ true
    → is_utf8 name ≡ true
name_utf8 text rest name mid e m n u r = ap is_utf8 (name_is text rest name mid e m n) ∙ front_text (column_len text) text u (sym (ap is_utf8 e) ∙ r)
