-- Parts of a line, one behind another.
use Rattle.std.proofs.Common.{ℕ, zero, suc, ◌≡◌, ◌+◌, ◌-◌, ◌<◌, Bool, true, false, cond, ltb, not, List, [], ◌∷◌, ◌++◌, length, drop, replicate, reverse, refl, sym, ap, subst, ◌∙◌, arith, append-nil}
use Rattle.std.specs.List.{list_all, prefix_len, suffix_len}
use Rattle.std.proofs.lemmas.Bool.{false≢true}
use Rattle.std.proofs.lemmas.List.{reverse-append}
use Rattle.hl_base.specs.Items.{is_white}
use Rattle.entry_reader.proofs.Both.{both_true}
use Rattle.written_logs.proofs.Bytes.{is_inside, solid_append, utf8_append, utf8_ascii}
use Rattle.closed_journals.proofs.Texts.{IsText}
use Rattle.written_logs.proofs.Lines.{IsLine, all_append, all_spaces}

-- ---- white space at the end

front_zero : (p : ℕ → Bool) (xs ys : List ℕ) → prefix_len p (xs ++ ys) ≡ 0 → prefix_len p xs ≡ 0
front_zero p [] ys h = refl
front_zero p (x ∷ xs) ys h = by (p x) (prefix_len p (xs ++ ys)) (prefix_len p xs) h
  where
    by : (t : Bool) (n m : ℕ) → cond t (1 + n) 0 ≡ 0 → cond t (1 + m) 0 ≡ 0
    by true n m e = absurd (omega arith)
    by false n m e = refl

-- none stands at the end of a rest
pub solid_rest : (b : ℕ) (bs : List ℕ) → suffix_len is_white (b ∷ bs) ≡ 0 → suffix_len is_white bs ≡ 0
solid_rest b bs h = front_zero is_white (reverse bs) (b ∷ []) (sym (ap (prefix_len is_white) (reverse-append (b ∷ []) bs)) ∙ h)

pub solid_drop : (k : ℕ) (t : List ℕ) → suffix_len is_white t ≡ 0 → suffix_len is_white (drop k t) ≡ 0
solid_drop zero t h = h
solid_drop (suc k) [] h = h
solid_drop (suc k) (b ∷ bs) h = solid_drop k bs (solid_rest b bs h)

-- the only byte isn't white
pub solid_one : (b : ℕ) → suffix_len is_white (b ∷ []) ≡ 0 → is_white b ≡ false
solid_one b h = by (is_white b) h
  where
    by : (t : Bool) → cond t (1 + 0) 0 ≡ 0 → t ≡ false
    by true e = absurd (omega arith)
    by false e = refl

-- ---- parts

-- a text in UTF-8 on one line, which has a byte, and none of white space at its end
pub record IsPart (xs : List ℕ) : Type 0 where
  pub line : IsLine xs
  pub some : 0 < length xs

pub solid_all : (xs : List ℕ) → 0 < length xs → list_all (λ b. not (is_white b)) xs ≡ true → suffix_len is_white xs ≡ 0
solid_all [] some h = absurd (omega arith)
solid_all (b ∷ []) some h = last b (both_true (not (is_white b)) true h).0
  where
    last : (b : ℕ) → not (is_white b) ≡ true → suffix_len is_white (b ∷ []) ≡ 0
    last b k = by (is_white b) k
      where
        by : (t : Bool) → not t ≡ true → cond t (1 + 0) 0 ≡ 0
        by true k = absurd (false≢true k)
        by false k = refl
solid_all (b ∷ c ∷ cs) some h = solid_append (b ∷ []) (c ∷ cs) (omega arith) (solid_all (c ∷ cs) (omega arith) (both_true (not (is_white b)) (list_all (λ b. not (is_white b)) (c ∷ cs)) h).1)

some_behind : (xs ys : List ℕ) → 0 < length ys → 0 < length (xs ++ ys)
some_behind [] ys h = h
some_behind (x ∷ xs) ys h = omega arith

pub text_append : (xs ys : List ℕ) → IsText xs → IsText ys → IsText (xs ++ ys)
text_append xs ys x y = record { utf8 = utf8_append xs ys x.utf8 y.utf8; line = all_append is_inside xs ys x.line y.line }

-- a part behind a text
pub part_behind : (xs ys : List ℕ) → IsText xs → IsPart ys → IsPart (xs ++ ys)
part_behind xs ys text p = record {
  line = record {
    utf8 = utf8_append xs ys text.utf8 (p.line).utf8;
    line = all_append is_inside xs ys text.line (p.line).line;
    last = solid_append xs ys p.some (p.line).last;
  };
  some = some_behind xs ys p.some;
}

-- a line behind another
pub line_behind : (xs ys : List ℕ) → IsLine xs → IsLine ys → IsLine (xs ++ ys)
line_behind xs [] x y = subst IsLine (sym (append-nil xs)) x
line_behind xs (b ∷ bs) x y = (part_behind xs (b ∷ bs) (record { utf8 = x.utf8; line = x.line }) (record { line = y; some = omega arith })).line

-- a line behind a part
pub part_before : (xs ys : List ℕ) → IsPart xs → IsLine ys → IsPart (xs ++ ys)
part_before xs ys x y = record { line = line_behind xs ys x.line y; some = some_before xs ys x.some }
  where
    some_before : (xs ys : List ℕ) → 0 < length xs → 0 < length (xs ++ ys)
    some_before [] ys h = absurd (omega arith)
    some_before (x ∷ xs) ys h = omega arith

pub text_of_part : (xs : List ℕ) → IsPart xs → IsText xs
text_of_part xs is = record { utf8 = (is.line).utf8; line = (is.line).line }

pub spaces_text : (n : ℕ) → IsText (replicate n 32)
spaces_text n = record { utf8 = utf8_ascii (replicate n 32) (all_spaces (λ b. ltb b 128) n refl); line = all_spaces is_inside n refl }

-- an ASCII text of given bytes
pub ascii_text : (xs : List ℕ) → list_all (λ b. ltb b 128) xs ≡ true → list_all is_inside xs ≡ true → IsText xs
ascii_text xs h k = record { utf8 = utf8_ascii xs h; line = k }

pub no_line : IsLine []
no_line = record { utf8 = utf8_ascii [] refl; line = refl; last = refl }
