-- UTF-8 in two parts, and line ends.
use Rattle.std.proofs.Common.{ℕ, zero, suc, ◌≡◌, ◌+◌, ◌<◌, Bool, true, false, cond, ◌==◌, List, [], ◌∷◌, ◌++◌, length, take, count_by, refl, sym, ap, subst, ◌∙◌, arith, length-append}
use Rattle.std.specs.Str.{is_utf8, IsUtf8}
use Rattle.std.specs.Str.Lossy.{utf8_valid_len, valid_len_up_to}
use Rattle.std.proofs.Math.Seq.{drop-append_seam, take-append_seam}
use Rattle.std.proofs.lemmas.Bool.{false≢true}
use Rattle.std.proofs.lemmas.List.Sums.{sum_by-append, sum_by-cons}
use Rattle.std.proofs.lemmas.Str.{IsCharBoundary-from_take, IsUtf8-append, IsUtf8-drop, IsUtf8-from_is_utf8, is_utf8-from_IsUtf8}
use Rattle.hl_base.specs.Lines.{lines_of, onto}
use Rattle.hl_base.proofs.LineLemmas.{lines_split}
use Rattle.journal_reader.specs.Items.{broken_line}
use Rattle.text_ends.proofs.Alike.{Lacks}
use Rattle.text_ends.proofs.Cutting.{take_over}
use Rattle.text_ends.proofs.Lining.{EndsLine}

-- ---- UTF-8

pub utf8_both : (x y : List ℕ) → is_utf8 x ≡ true → is_utf8 y ≡ true → is_utf8 (x ++ y) ≡ true
utf8_both x y e f = is_utf8-from_IsUtf8 (x ++ y) (IsUtf8-append x y (IsUtf8-from_is_utf8 x e) (IsUtf8-from_is_utf8 y f))

utf8_second : (x y : List ℕ) → is_utf8 x ≡ true → is_utf8 (x ++ y) ≡ true → is_utf8 y ≡ true
utf8_second x y e h =
    let all = IsUtf8-from_is_utf8 (x ++ y) h in
    let front : IsUtf8 (take (length x) (x ++ y)) = subst IsUtf8 (sym (take-append_seam x y)) (IsUtf8-from_is_utf8 x e) in
    let cut = IsCharBoundary-from_take (x ++ y) (length x) all (omega (arith, length-append x y)) front in
    is_utf8-from_IsUtf8 y (subst IsUtf8 (drop-append_seam x y) (IsUtf8-drop (x ++ y) (length x) all cut))

-- behind a text in UTF-8 it is for the second part to decide
pub utf8_behind : (x y : List ℕ) → is_utf8 x ≡ true → is_utf8 (x ++ y) ≡ is_utf8 y
utf8_behind x y e = by (is_utf8 y) refl (is_utf8 (x ++ y)) refl
  where
    by : (t : Bool) → is_utf8 y ≡ t → (u : Bool) → is_utf8 (x ++ y) ≡ u → u ≡ t
    by true f true g = refl
    by false f false g = refl
    by true f false g = absurd (false≢true (sym g ∙ utf8_both x y e f))
    by false f true g = absurd (false≢true (sym f ∙ utf8_second x y e g))

own_by : (n m : ℕ) (t : Bool) → t ≡ true → cond t n m ≡ n
own_by n m true h = refl
own_by n m false h = absurd (false≢true h)

own_valid : (xs : List ℕ) (n : ℕ) → is_utf8 (take n xs) ≡ true → valid_len_up_to xs n ≡ n
own_valid xs zero h = refl
own_valid xs (suc n) h = own_by (suc n) (valid_len_up_to xs n) (is_utf8 (take (suc n) xs)) h

valid_by : (a m v w : ℕ) (t : Bool) → v ≡ a + w → cond t (suc (a + m)) v ≡ a + cond t (suc m) w
valid_by a m v w true h = omega arith
valid_by a m v w false h = h

valid_more : (x y : List ℕ) (m : ℕ) → is_utf8 x ≡ true → valid_len_up_to (x ++ y) (length x + m) ≡ length x + valid_len_up_to y m
valid_more x y zero e =
    let z : length x + 0 ≡ length x = omega arith in
    ap (valid_len_up_to (x ++ y)) z ∙ own_valid (x ++ y) (length x) (ap is_utf8 (take-append_seam x y) ∙ e) ∙ sym z
valid_more x y (suc m) e =
    let z : length x + suc m ≡ suc (length x + m) = omega arith in
    let front : take (suc (length x + m)) (x ++ y) ≡ x ++ take (suc m) y = ap (λ (k : ℕ). take k (x ++ y)) (sym z) ∙ take_over x y (suc m) in
    ap (valid_len_up_to (x ++ y)) z
    ∙ ap (λ (t : Bool). cond t (suc (length x + m)) (valid_len_up_to (x ++ y) (length x + m))) (ap is_utf8 front ∙ utf8_behind x (take (suc m) y) e)
    ∙ valid_by (length x) m (valid_len_up_to (x ++ y) (length x + m)) (valid_len_up_to y m) (is_utf8 (take (suc m) y)) (valid_more x y m e)

valid_behind : (x y : List ℕ) → is_utf8 x ≡ true → utf8_valid_len (x ++ y) ≡ length x + utf8_valid_len y
unfolding utf8_valid_len
valid_behind x y e = ap (valid_len_up_to (x ++ y)) (length-append x y) ∙ valid_more x y (length y) e

-- ---- line ends

abbrev is_end : ℕ → Bool
is_end b = b == 10

abbrev pub ends_in : List ℕ → ℕ
ends_in xs = count_by (λ b. b == 10) xs

some_lines : (c : ℕ) (cs : List ℕ) → 0 < length (lines_of (c ∷ cs))
some_lines c cs = omega (arith, ap length (lines_split (c ∷ cs) (omega arith)))

longer_onto : (b : ℕ) (ls : List (List ℕ)) → 0 < length ls → length (onto b ls) ≡ length ls
longer_onto b [] h = absurd (omega arith)
longer_onto b (l ∷ ls) h = refl

one_more : (t : Bool) (b : ℕ) (ls : List (List ℕ)) → 0 < length ls → length (cond t ((b ∷ []) ∷ ls) (onto b ls)) ≡ cond t 1 0 + length ls
one_more true b ls h = omega arith
one_more false b ls h = longer_onto b ls h ∙ (let z : length ls ≡ 0 + length ls = omega arith in z)

last_one : (t : Bool) (b : ℕ) → length (cond t ((b ∷ []) ∷ []) (onto b [])) ≡ 1
last_one true b = refl
last_one false b = refl

-- a text that ends with LF has as many lines as line ends
pub ends_counted : (text : List ℕ) → EndsLine text → length (lines_of text) ≡ ends_in text
ends_counted [] h = refl
ends_counted (b ∷ []) h =
    let one : ◌≡◌ {A = ℕ} (cond (b == 10) 1 0) 1 = ap (λ (t : Bool). cond {A = ℕ} t 1 0) h in
    let count : ends_in (b ∷ []) ≡ cond (b == 10) 1 0 + ends_in [] = sum_by-cons (λ c. cond (c == 10) 1 0) b [] in
    let none : ends_in [] ≡ 0 = refl in
    let lines : length (lines_of (b ∷ [])) ≡ 1 = last_one (b == 10) b in
    omega (arith, one, count, none, lines)
ends_counted (b ∷ c ∷ cs) h =
    let count : ends_in (b ∷ c ∷ cs) ≡ cond (b == 10) 1 0 + ends_in (c ∷ cs) = sum_by-cons (λ d. cond (d == 10) 1 0) b (c ∷ cs) in
    let lines : length (lines_of (b ∷ c ∷ cs)) ≡ cond (b == 10) 1 0 + length (lines_of (c ∷ cs)) = one_more (b == 10) b (lines_of (c ∷ cs)) (some_lines c cs) in
    omega (arith, count, lines, ends_counted (c ∷ cs) h)

-- one that doesn't has one more
lacks_more : (b : ℕ) (bs : List ℕ) → Lacks (b ∷ bs) → length (lines_of (b ∷ bs)) ≡ ends_in (b ∷ bs) + 1
lacks_more b [] h =
    let one : ◌≡◌ {A = ℕ} (cond (b == 10) 1 0) 0 = ap (λ (t : Bool). cond {A = ℕ} t 1 0) h in
    let count : ends_in (b ∷ []) ≡ cond (b == 10) 1 0 + ends_in [] = sum_by-cons (λ c. cond (c == 10) 1 0) b [] in
    let none : ends_in [] ≡ 0 = refl in
    let lines : length (lines_of (b ∷ [])) ≡ 1 = last_one (b == 10) b in
    omega (arith, one, count, none, lines)
lacks_more b (c ∷ cs) h =
    let count : ends_in (b ∷ c ∷ cs) ≡ cond (b == 10) 1 0 + ends_in (c ∷ cs) = sum_by-cons (λ d. cond (d == 10) 1 0) b (c ∷ cs) in
    let lines : length (lines_of (b ∷ c ∷ cs)) ≡ cond (b == 10) 1 0 + length (lines_of (c ∷ cs)) = one_more (b == 10) b (lines_of (c ∷ cs)) (some_lines c cs) in
    omega (arith, count, lines, lacks_more c cs h)

pub lacks_counted : (text : List ℕ) → 0 < length text → Lacks text → length (lines_of text) ≡ ends_in text + 1
lacks_counted [] some h = absurd (omega arith)
lacks_counted (b ∷ bs) some h = lacks_more b bs h

-- the line of the first byte that isn't UTF-8, behind a text in UTF-8
pub broken_behind : (line : ℕ) (x y : List ℕ) → is_utf8 x ≡ true → broken_line line (x ++ y) ≡ broken_line (line + ends_in x) y
broken_behind line x y e =
    let n = utf8_valid_len y in
    let front : take (utf8_valid_len (x ++ y)) (x ++ y) ≡ x ++ take n y = ap (λ (k : ℕ). take k (x ++ y)) (valid_behind x y e) ∙ take_over x y n in
    let count : ends_in (x ++ take n y) ≡ ends_in x + ends_in (take n y) = sum_by-append (λ b. cond (b == 10) 1 0) x (take n y) in
    ap (λ (t : List ℕ). line + ends_in t) front ∙ (let z : line + ends_in (x ++ take n y) ≡ line + ends_in x + ends_in (take n y) = omega (arith, count) in z)
