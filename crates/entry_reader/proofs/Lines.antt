-- The first line of a text, found by its first LF; and how many lines there are.
use Rattle.std.proofs.Common.{◌≡◌, ℕ, suc, ◌+◌, ◌<◌, ◌≤◌, Bool, true, false, cond, ◌==◌, not, List, [], ◌∷◌, length, take, drop, map, refl, ap, ◌∙◌, arith}
use Rattle.std.specs.List.{prefix_len, take_while}
use Rattle.std.proofs.lemmas.List.{length-map, length-take}
use Rattle.std.proofs.lemmas.List.Sums.{take_while-cons}
use Rattle.hl_base.specs.Lines.{onto, lines_of}
use Rattle.entry_reader.specs.Lines.{before_white, content_of, contents_of}

abbrev pub is_inside : ℕ → Bool
is_inside b = not (b == 10)

-- how many bytes the first line has before its LF
abbrev pub inside : List ℕ → ℕ
inside text = prefix_len is_inside text

-- the cut after n bytes and an LF
abbrev IsCut : ℕ → List (List ℕ) → List ℕ → Type 0
IsCut n lines text = lines ≡ take (n + 1) text ∷ lines_of (drop (n + 1) text)

cut_end : (b : ℕ) (bs : List ℕ) → IsCut 0 ((b ∷ []) ∷ lines_of bs) (b ∷ bs)
cut_end b bs = refl

cut_longer : (b n : ℕ) (bs : List ℕ) → IsCut n (lines_of bs) bs → IsCut (1 + n) (onto b (lines_of bs)) (b ∷ bs)
cut_longer b n bs h =
    let e : 1 + n + 1 ≡ suc (n + 1) = omega arith in
    rw (e, h) refl

cut_last : (b : ℕ) → IsCut (1 + inside []) (onto b (lines_of [])) (b ∷ [])
cut_last b = refl

cut_by : (t : Bool) (b n : ℕ) (bs : List ℕ) → IsCut (1 + n) (onto b (lines_of bs)) (b ∷ bs) → IsCut (cond (not t) (1 + n) 0) (cond t ((b ∷ []) ∷ lines_of bs) (onto b (lines_of bs))) (b ∷ bs)
cut_by true b n bs h = cut_end b bs
cut_by false b n bs h = h

pub lines_cut : (b : ℕ) (bs : List ℕ) → IsCut (inside (b ∷ bs)) (lines_of (b ∷ bs)) (b ∷ bs)
lines_cut b [] = cut_by (b == 10) b (inside []) [] (cut_last b)
lines_cut b (c ∷ cs) = cut_by (b == 10) b (inside (c ∷ cs)) (c ∷ cs) (cut_longer b (inside (c ∷ cs)) (c ∷ cs) (lines_cut c cs))

-- the front of a text through its first LF, without the LF
abbrev before_end : List ℕ → List ℕ
before_end line = take_while is_inside line

content_more : (b n : ℕ) (bs : List ℕ) → before_end (take (n + 1) bs) ≡ take n bs → (t : Bool) → t ≡ (b == 10)
    → before_end (take (cond (not t) (1 + n) 0 + 1) (b ∷ bs)) ≡ take (cond (not t) (1 + n) 0) (b ∷ bs)
content_more b n bs h true e = take_while-cons is_inside b [] ∙ rw (← e) refl
content_more b n bs h false e =
    let k : 1 + n + 1 ≡ suc (n + 1) = omega arith in
    let j : 1 + n ≡ suc n = omega arith in
    rw (k, j) (take_while-cons is_inside b (take (n + 1) bs) ∙ rw (← e, h) refl)

content_cut : (text : List ℕ) → before_end (take (inside text + 1) text) ≡ take (inside text) text
content_cut [] = refl
content_cut (b ∷ bs) = content_more b (inside bs) bs (content_cut bs) (b == 10) refl

cut_of : (text : List ℕ) → 0 < length text → lines_of text ≡ take (inside text + 1) text ∷ lines_of (drop (inside text + 1) text)
cut_of [] h = absurd (omega arith)
cut_of (b ∷ bs) h = lines_cut b bs

-- the first line's content before the contents of the text after it
pub contents_cut : (text : List ℕ) → 0 < length text → contents_of text ≡ before_white (take (inside text) text) ∷ contents_of (drop (inside text + 1) text)
contents_cut text h = ap (map content_of) (cut_of text h) ∙ ap (λ (l : List ℕ). before_white l ∷ contents_of (drop (inside text + 1) text)) (content_cut text)

-- a text has no more lines than bytes
few_onto : (b n : ℕ) (ls : List (List ℕ)) → length ls ≤ n → length (onto b ls) ≤ suc n
few_onto b n [] h = omega arith
few_onto b n (l ∷ ls) h = omega (arith, h)

few_more : (t : Bool) (b n : ℕ) (ls : List (List ℕ)) → length ls ≤ n → length (cond t ((b ∷ []) ∷ ls) (onto b ls)) ≤ suc n
few_more true b n ls h = omega (arith, h)
few_more false b n ls h = few_onto b n ls h

few_parts : (text : List ℕ) → length (lines_of text) ≤ length text
few_parts [] = omega arith
few_parts (b ∷ bs) = few_more (b == 10) b (length bs) (lines_of bs) (few_parts bs)

pub few_lines : (text : List ℕ) → length (contents_of text) ≤ length text
few_lines text = omega (arith, length-map (lines_of text) content_of, few_parts text)

pub few_within : (n : ℕ) (text : List ℕ) → length (contents_of (take n text)) ≤ n
few_within n text = omega (arith, few_lines (take n text), length-take n text)
