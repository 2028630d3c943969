-- Facts on the lines of a text.
use Rattle.std.proofs.Common.{◌≡◌, ℕ, ◌+◌, ◌<◌, ◌≤◌, Bool, true, false, not, eqb, List, [], ◌∷◌, length, take, drop, min, refl, ap, ◌∙◌, arith, length-drop, drop-drop}
use Rattle.std.specs.List.{take_while}
use Rattle.std.proofs.lemmas.List.{drop_all}
use Rattle.std.proofs.lemmas.List.Sums.{take_while-cons}
use Rattle.hl_base.specs.Lines.{onto, lines_of, first_line}

first_cases : (x : ℕ) (xs : List ℕ) (r : Bool) → eqb x 10 ≡ r → length (first_line xs) ≡ min (length (take_while (λ b. not (eqb b 10)) xs) + 1) (length xs) → length (first_line (x ∷ xs)) ≡ min (length (take_while (λ b. not (eqb b 10)) (x ∷ xs)) + 1) (length (x ∷ xs))
first_cases x xs true e h = rw (take_while-cons (λ b. not (eqb b 10)) x xs, e) (omega arith)
first_cases x xs false e h = rw (take_while-cons (λ b. not (eqb b 10)) x xs, e) (omega arith)

-- the first line is the bytes before the first LF, with the LF if there is one
pub length_first : (xs : List ℕ) → length (first_line xs) ≡ min (length (take_while (λ b. not (eqb b 10)) xs) + 1) (length xs)
length_first [] = omega arith
length_first (x ∷ xs) = first_cases x xs (eqb x 10) refl (length_first xs)

prefix_cases : (x : ℕ) (xs : List ℕ) (r : Bool) → eqb x 10 ≡ r → take (length (first_line xs)) xs ≡ first_line xs → take (length (first_line (x ∷ xs))) (x ∷ xs) ≡ first_line (x ∷ xs)
prefix_cases x xs true e h = rw e refl
prefix_cases x xs false e h = rw e (ap (λ t. x ∷ t) h)

-- the first line is the front of the text
pub take_first : (xs : List ℕ) → take (length (first_line xs)) xs ≡ first_line xs
take_first [] = refl
take_first (x ∷ xs) = prefix_cases x xs (eqb x 10) refl (take_first xs)

last_cases : (b : ℕ) (r : Bool) → eqb b 10 ≡ r → lines_of (b ∷ []) ≡ first_line (b ∷ []) ∷ lines_of (drop (length (first_line (b ∷ []))) (b ∷ []))
last_cases b true e = rw e refl
last_cases b false e = rw e refl

more_cases : (b c : ℕ) (cs : List ℕ) (r : Bool) → eqb b 10 ≡ r
    → lines_of (c ∷ cs) ≡ first_line (c ∷ cs) ∷ lines_of (drop (length (first_line (c ∷ cs))) (c ∷ cs))
    → lines_of (b ∷ c ∷ cs) ≡ first_line (b ∷ c ∷ cs) ∷ lines_of (drop (length (first_line (b ∷ c ∷ cs))) (b ∷ c ∷ cs))
more_cases b c cs true e h = rw e refl
more_cases b c cs false e h = rw e (ap (onto b) h)

split_first : (b : ℕ) (bs : List ℕ) → lines_of (b ∷ bs) ≡ first_line (b ∷ bs) ∷ lines_of (drop (length (first_line (b ∷ bs))) (b ∷ bs))
split_first b [] = last_cases b (eqb b 10) refl
split_first b (c ∷ cs) = more_cases b c cs (eqb b 10) refl (split_first c cs)

-- a text that isn't empty is its first line and the lines after it
pub lines_split : (xs : List ℕ) → 0 < length xs → lines_of xs ≡ first_line xs ∷ lines_of (drop (length (first_line xs)) xs)
lines_split [] h = absurd (omega arith)
lines_split (b ∷ bs) h = split_first b bs

-- the same of a text from a place on
pub lines_at : (text : List ℕ) (at : ℕ) → at < length text → lines_of (drop at text) ≡ first_line (drop at text) ∷ lines_of (drop (at + length (first_line (drop at text))) text)
lines_at text at h =
    lines_split (drop at text) (omega (arith, length-drop at text))
    ∙ ap (λ rest. first_line (drop at text) ∷ lines_of rest) (drop-drop (length (first_line (drop at text))) at text)

-- one more line
pub line_more : (text : List ℕ) (at next lines whole : ℕ) → at < length text → next ≡ at + length (first_line (drop at text)) → lines + length (lines_of (drop at text)) ≡ whole → lines + 1 + length (lines_of (drop next text)) ≡ whole
line_more text at next lines whole lt e h =
    let cut = ap length (lines_at text at lt) in
    let there : length (lines_of (drop next text)) ≡ length (lines_of (drop (at + length (first_line (drop at text))) text)) = ap (λ (n : ℕ). length (lines_of (drop n text))) e in
    omega (arith, cut, there, h)

pub all_counted : (text : List ℕ) (at lines whole : ℕ) → length text ≤ at → lines + length (lines_of (drop at text)) ≡ whole → lines ≡ whole
all_counted text at lines whole le h =
    let none : length (lines_of (drop at text)) ≡ 0 = ap (λ (t : List ℕ). length (lines_of t)) (drop_all at text le) in
    omega (arith, none, h)
