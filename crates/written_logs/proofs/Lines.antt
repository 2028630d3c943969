-- Texts of lines, each with its LF.
use Rattle.std.proofs.Common.{◌≡◌, ℕ, zero, suc, Bool, true, List, [], ◌∷◌, ◌++◌, map, replicate, refl, ap, ◌∙◌, append_assoc}
use Rattle.std.specs.List.{list_all, suffix_len, concat, AllByRecursion}
use Rattle.std.specs.Str.{is_utf8}
use Rattle.std.proofs.lemmas.List.Folds.{list_all-append}
use Rattle.hl_base.specs.Items.{is_white}
use Rattle.hl_base.specs.Lines.{lines_of, first_line}
use Rattle.entry_reader.specs.Lines.{content_of, contents_of}
use Rattle.entry_reader.proofs.Texts.{empty_utf8}
use Rattle.written_logs.proofs.Bytes.{is_inside, lines_step, first_step, content_step, utf8_append, utf8_ascii}

-- some lines, each with its LF
abbrev pub joined : List (List ℕ) → List ℕ
joined [] = []
joined (c ∷ cs) = c ++ 10 ∷ joined cs

abbrev pub ended : List ℕ → List ℕ
ended c = c ++ 10 ∷ []

-- It is in UTF-8 and on one line, without white space at its end.
pub record IsLine (c : List ℕ) : Type 0 where
  pub utf8 : is_utf8 c ≡ true
  pub line : list_all is_inside c ≡ true
  pub last : suffix_len is_white c ≡ 0

abbrev pub AreLines : List (List ℕ) → Type 0
AreLines cs = AllByRecursion IsLine cs

pub lines_joined : (cs : List (List ℕ)) (rest : List ℕ) → AreLines cs → lines_of (joined cs ++ rest) ≡ map ended cs ++ lines_of rest
lines_joined [] rest are = refl
lines_joined (c ∷ cs) rest are =
    ap lines_of (append_assoc c (10 ∷ joined cs) rest)
    ∙ lines_step c (joined cs ++ rest) (are.0).line
    ∙ ap (λ (ls : List (List ℕ)). ended c ∷ ls) (lines_joined cs rest are.1)

pub contents_joined : (cs : List (List ℕ)) → AreLines cs → contents_of (joined cs) ≡ cs
contents_joined [] are = refl
contents_joined (c ∷ cs) are =
    ap (map content_of) (lines_step c (joined cs) (are.0).line)
    ∙ ap (λ (x : List ℕ). x ∷ map content_of (lines_of (joined cs))) (content_step c (are.0).line (are.0).last)
    ∙ ap (λ (xs : List (List ℕ)). c ∷ xs) (contents_joined cs are.1)

pub first_joined : (c : List ℕ) (cs : List (List ℕ)) → IsLine c → first_line (joined (c ∷ cs)) ≡ ended c
first_joined c cs is = first_step c (joined cs) is.line

pub concat_ended : (cs : List (List ℕ)) → concat (map ended cs) ≡ joined cs
concat_ended [] = refl
concat_ended (c ∷ cs) = ap (λ (xs : List ℕ). ended c ++ xs) (concat_ended cs) ∙ append_assoc c (10 ∷ []) (joined cs)

pub utf8_joined : (cs : List (List ℕ)) → AreLines cs → is_utf8 (joined cs) ≡ true
utf8_joined [] are = empty_utf8
utf8_joined (c ∷ cs) are = utf8_append c (10 ∷ joined cs) (are.0).utf8 (utf8_append (10 ∷ []) (joined cs) (utf8_ascii (10 ∷ []) refl) (utf8_joined cs are.1))

-- ---- bytes that all pass

pub all_cons : (p : ℕ → Bool) (b : ℕ) (bs : List ℕ) → p b ≡ true → list_all p bs ≡ true → list_all p (b ∷ bs) ≡ true
all_cons p b bs h k = rw (h, k) refl

pub all_append : (p : ℕ → Bool) (xs ys : List ℕ) → list_all p xs ≡ true → list_all p ys ≡ true → list_all p (xs ++ ys) ≡ true
all_append p xs ys h k = list_all-append p xs ys ∙ rw (h, k) refl

pub all_spaces : (p : ℕ → Bool) (n : ℕ) → p 32 ≡ true → list_all p (replicate n 32) ≡ true
all_spaces p zero h = refl
all_spaces p (suc n) h = all_cons p 32 (replicate n 32) h (all_spaces p n h)

pub all_parts : {X : Type 0} (P : X → Type 0) (xs ys : List X) → AllByRecursion P xs → AllByRecursion P ys → AllByRecursion P (xs ++ ys)
all_parts P [] ys a b = b
all_parts P (x ∷ xs) ys a b = (a.0, all_parts P xs ys a.1 b)
