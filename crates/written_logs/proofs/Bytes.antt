-- Texts whose bytes all pass a test, white space at their ends, and their lines.
use Rattle.std.proofs.Common.{◌≡◌, ℕ, zero, suc, ◌+◌, ◌-◌, ◌<◌, ◌≤◌, inl, inr, Bool, true, false, cond, ltb, ◌==◌, not, List, [], ◌∷◌, ◌++◌, length, get_or, take, drop, reverse, replicate, refl, sym, ap, ◌∙◌, arith}
use Rattle.std.specs.List.{prefix_len, suffix_len, take_while, list_all}
use Rattle.std.specs.Str.{is_utf8, IsAscii}
use Rattle.std.proofs.Math.Seq.{take-append_seam, drop-append_seam, take-length}
use Rattle.std.proofs.lemmas.Bool.{cases_lt, false≢true}
use Rattle.std.proofs.lemmas.List.{drop_all, get_or-reverse, length-reverse, reverse-append}
use Rattle.std.proofs.lemmas.List.Sums.{prefix_len_passes, prefix_len_stops, suffix_len-take_no, suffix_len-le-length}
use Rattle.std.proofs.lemmas.Str.{IsUtf8-append, IsUtf8-from_is_utf8, is_utf8-from_IsUtf8, IsUtf8-from_ascii}
use Rattle.std.proofs.lemmas.Str.Ascii.{IsAscii-nil, IsAscii-cons}
use borrow.Author.Tests.{ltb-true}
use Rattle.hl_base.specs.Items.{is_white}
use Rattle.hl_base.specs.Lines.{lines_of, first_line}
use Rattle.entry_reader.specs.Lines.{first_is, before_byte, after_byte, after_white, before_white, trimmed, content_of}
use Rattle.entry_reader.proofs.Both.{both_true}
use Rattle.written_logs.specs.Plain.{lacks}
use Rattle.entry_reader.proofs.Texts.{white_below, cut_before, front_utf8}

pub not_false : (b : Bool) → not b ≡ true → b ≡ false
not_false true e = absurd (false≢true e)
not_false false e = refl

-- ---- fronts that pass

pub prefix_stops : (p : ℕ → Bool) (c : List ℕ) (x : ℕ) (rest : List ℕ) → list_all p c ≡ true → p x ≡ false → prefix_len p (c ++ x ∷ rest) ≡ length c
prefix_stops p [] x rest h f = rw f refl
prefix_stops p (b ∷ bs) x rest h f =
    let all = both_true (p b) (list_all p bs) h in
    let here = all.0 in
    let more = prefix_stops p bs x rest all.1 f in
    rw (here, more) (omega arith)

pub prefix_whole : (p : ℕ → Bool) (c : List ℕ) → list_all p c ≡ true → prefix_len p c ≡ length c
prefix_whole p [] h = refl
prefix_whole p (b ∷ bs) h =
    let all = both_true (p b) (list_all p bs) h in
    let here = all.0 in
    let more = prefix_whole p bs all.1 in
    rw (here, more) (omega arith)

pub front_stops : (p : ℕ → Bool) (c : List ℕ) (x : ℕ) (rest : List ℕ) → list_all p c ≡ true → p x ≡ false → take_while p (c ++ x ∷ rest) ≡ c
front_stops p c x rest h f = ap (λ (k : ℕ). take k (c ++ x ∷ rest)) (prefix_stops p c x rest h f) ∙ take-append_seam c (x ∷ rest)

pub rest_stops : (p : ℕ → Bool) (c : List ℕ) (x : ℕ) (rest : List ℕ) → list_all p c ≡ true → p x ≡ false → drop (prefix_len p (c ++ x ∷ rest)) (c ++ x ∷ rest) ≡ x ∷ rest
rest_stops p c x rest h f = ap (λ (k : ℕ). drop k (c ++ x ∷ rest)) (prefix_stops p c x rest h f) ∙ drop-append_seam c (x ∷ rest)

pub front_whole : (p : ℕ → Bool) (c : List ℕ) → list_all p c ≡ true → take_while p c ≡ c
front_whole p c h = ap (λ (k : ℕ). take k c) (prefix_whole p c h) ∙ take-length c

pub before_none : (byte : ℕ) (c : List ℕ) → lacks byte c ≡ true → before_byte byte c ≡ c
before_none byte c h = front_whole (λ b. not (b == byte)) c h

pub after_none : (byte : ℕ) (c : List ℕ) → lacks byte c ≡ true → after_byte byte c ≡ []
after_none byte c h = drop_all (prefix_len (λ b. not (b == byte)) c + 1) c (omega (arith, prefix_whole (λ b. not (b == byte)) c h))

-- ---- white space

pub skip_one : (p : ℕ → Bool) (b : ℕ) (bs : List ℕ) → p b ≡ true → drop (prefix_len p (b ∷ bs)) (b ∷ bs) ≡ drop (prefix_len p bs) bs
skip_one p b bs h =
    let next : 1 + prefix_len p bs ≡ suc (prefix_len p bs) = omega arith in
    rw h (ap (λ (k : ℕ). drop k (b ∷ bs)) next)

pub stop_one : (p : ℕ → Bool) (b : ℕ) (bs : List ℕ) → p b ≡ false → drop (prefix_len p (b ∷ bs)) (b ∷ bs) ≡ b ∷ bs
stop_one p b bs h = rw h refl

pub after_spaces : (n : ℕ) (c : List ℕ) → after_white (replicate n 32 ++ c) ≡ after_white c
after_spaces zero c = refl
after_spaces (suc n) c = skip_one is_white 32 (replicate n 32 ++ c) refl ∙ after_spaces n c

pub after_white_solid : (c : List ℕ) → first_is is_white c ≡ false → after_white c ≡ c
after_white_solid [] h = refl
after_white_solid (b ∷ bs) h = stop_one is_white b bs h

pub before_white_solid : (c : List ℕ) → suffix_len is_white c ≡ 0 → before_white c ≡ c
before_white_solid c h =
    let all : length c - suffix_len is_white c ≡ length c = omega (arith, h) in
    ap (λ (k : ℕ). take k c) all ∙ take-length c

-- white space stands at neither end
pub trimmed_solid : (c : List ℕ) → first_is is_white c ≡ false → suffix_len is_white c ≡ 0 → trimmed c ≡ c
trimmed_solid c first last = ap before_white (after_white_solid c first) ∙ before_white_solid c last

front_zero : (p : ℕ → Bool) (xs ys : List ℕ) → prefix_len p xs ≡ 0 → 0 < length xs → prefix_len p (xs ++ ys) ≡ 0
front_zero p [] ys z some = absurd (omega arith)
front_zero p (x ∷ xs) ys z some = by (p x) (prefix_len p xs) (prefix_len p (xs ++ ys)) z
  where
    by : (t : Bool) (n m : ℕ) → cond t (1 + n) 0 ≡ 0 → cond t (1 + m) 0 ≡ 0
    by true n m e = absurd (omega arith)
    by false n m e = refl

-- behind another text
pub solid_append : (xs ys : List ℕ) → 0 < length ys → suffix_len is_white ys ≡ 0 → suffix_len is_white (xs ++ ys) ≡ 0
solid_append xs ys some h =
    let count : length (reverse ys) ≡ length ys = length-reverse ys in
    ap (prefix_len is_white) (reverse-append xs ys) ∙ front_zero is_white (reverse ys) (reverse xs) h (omega arith)

last_one : (p : ℕ → Bool) (y : ℕ) → p y ≡ false → suffix_len p (y ∷ []) ≡ 0
last_one p y h = rw h refl

pub solid_last : (xs : List ℕ) (y : ℕ) → is_white y ≡ false → suffix_len is_white (xs ++ y ∷ []) ≡ 0
solid_last xs y h = solid_append xs (y ∷ []) (omega arith) (last_one is_white y h)

-- no white space stands at the end of what is cut before it
pub before_white_ends : (text : List ℕ) → suffix_len is_white (before_white text) ≡ 0
before_white_ends text =
    let s = suffix_len is_white text in
    let count : length (reverse text) ≡ length text = length-reverse text in
    elim (cases_lt s (length text)) [
      | inl less ↦ (
          let stops : is_white (get_or (reverse text) s 0) ≡ false = prefix_len_stops is_white (reverse text) 0 (omega arith) in
          let place : length text - 1 - s ≡ length text - s - 1 = omega arith in
          let last : is_white (get_or text (length text - s - 1) 0) ≡ false =
          ap (λ (k : ℕ). is_white (get_or text k 0)) (sym place) ∙ ap is_white (sym (get_or-reverse text s 0 less)) ∙ stops in
          suffix_len-take_no is_white text (length text - s) 0 (omega arith) (omega arith) last)
      | inr all ↦ (
          let none : length text - s ≡ 0 = omega arith in
          ap (λ (k : ℕ). suffix_len is_white (take k text)) none)
    ]

pub before_white_utf8 : (text : List ℕ) → is_utf8 text ≡ true → is_utf8 (before_white text) ≡ true
before_white_utf8 text e =
    let s = suffix_len is_white text in
    let most : s ≤ length text = suffix_len-le-length is_white text in
    front_utf8 text (length text - s) (cut_before text (length text - s) (omega arith) (λ less. low s most less)) e
  where
    low : (s : ℕ) → s ≤ length text → length text - suffix_len is_white text < length text → get_or text (length text - suffix_len is_white text) 0 < 128
    low s most less =
        let n = suffix_len is_white text in
        let bound : n ≤ length text = suffix_len-le-length is_white text in
        let passes : is_white (get_or (reverse text) (n - 1) 0) ≡ true = prefix_len_passes is_white (reverse text) (n - 1) 0 (omega arith) in
        let place : length text - 1 - (n - 1) ≡ length text - n = omega arith in
        let white : is_white (get_or text (length text - n) 0) ≡ true =
        ap (λ (k : ℕ). is_white (get_or text k 0)) (sym place) ∙ ap is_white (sym (get_or-reverse text (n - 1) 0 (omega arith))) ∙ passes in
        white_below (get_or text (length text - n) 0) white

first_by : (b : ℕ) (bs : List ℕ) (t : Bool) → is_white b ≡ t → first_is is_white (after_white bs) ≡ false → first_is is_white (after_white (b ∷ bs)) ≡ false
first_by b bs true e more = ap (first_is is_white) (skip_one is_white b bs e) ∙ more
first_by b bs false e more = ap (first_is is_white) (stop_one is_white b bs e) ∙ e

pub first_solid : (text : List ℕ) → first_is is_white (after_white text) ≡ false
first_solid [] = refl
first_solid (b ∷ bs) = first_by b bs (is_white b) refl (first_solid bs)

pub first_of_take : (p : ℕ → Bool) (n : ℕ) (text : List ℕ) → first_is p text ≡ false → first_is p (take n text) ≡ false
first_of_take p zero text h = refl
first_of_take p (suc n) [] h = h
first_of_take p (suc n) (b ∷ bs) h = h

-- ---- lines

abbrev pub is_inside : ℕ → Bool
is_inside b = not (b == 10)

pub lines_step : (c rest : List ℕ) → list_all is_inside c ≡ true → lines_of (c ++ 10 ∷ rest) ≡ (c ++ 10 ∷ []) ∷ lines_of rest
lines_step [] rest h = refl
lines_step (b ∷ bs) rest h =
    let all = both_true (not (b == 10)) (list_all is_inside bs) h in
    let apart : (b == 10) ≡ false = not_false (b == 10) all.0 in
    let more = lines_step bs rest all.1 in
    rw (apart, more) refl

pub first_step : (c rest : List ℕ) → list_all is_inside c ≡ true → first_line (c ++ 10 ∷ rest) ≡ c ++ 10 ∷ []
first_step [] rest h = refl
first_step (b ∷ bs) rest h =
    let all = both_true (not (b == 10)) (list_all is_inside bs) h in
    let apart : (b == 10) ≡ false = not_false (b == 10) all.0 in
    let more = first_step bs rest all.1 in
    rw (apart, more) refl

pub content_step : (c : List ℕ) → list_all is_inside c ≡ true → suffix_len is_white c ≡ 0 → content_of (c ++ 10 ∷ []) ≡ c
content_step c h last = ap before_white (front_stops is_inside c 10 [] h refl) ∙ before_white_solid c last

-- ---- UTF-8

pub utf8_append : (xs ys : List ℕ) → is_utf8 xs ≡ true → is_utf8 ys ≡ true → is_utf8 (xs ++ ys) ≡ true
utf8_append xs ys e f = is_utf8-from_IsUtf8 (xs ++ ys) (IsUtf8-append xs ys (IsUtf8-from_is_utf8 xs e) (IsUtf8-from_is_utf8 ys f))

ascii_is : (xs : List ℕ) → list_all (λ b. ltb b 128) xs ≡ true → IsAscii xs
ascii_is [] h = IsAscii-nil
ascii_is (b ∷ bs) h =
    let all = both_true (ltb b 128) (list_all (λ b. ltb b 128) bs) h in
    IsAscii-cons b bs (ltb-true b 128 all.0) (ascii_is bs all.1)

pub utf8_ascii : (xs : List ℕ) → list_all (λ b. ltb b 128) xs ≡ true → is_utf8 xs ≡ true
utf8_ascii xs h = is_utf8-from_IsUtf8 xs (IsUtf8-from_ascii xs (ascii_is xs h))

-- what passes one test passes another
pub all_also : (p q : ℕ → Bool) (xs : List ℕ) → ((b : ℕ) → p b ≡ true → q b ≡ true) → list_all p xs ≡ true → list_all q xs ≡ true
all_also p q [] f h = refl
all_also p q (b ∷ bs) f h =
    let all = both_true (p b) (list_all p bs) h in
    let here = f b all.0 in
    let more = all_also p q bs f all.1 in
    rw (here, more) refl
