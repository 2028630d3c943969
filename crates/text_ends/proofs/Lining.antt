-- The lines of a text that ends with LF, of parts of a text, and of what is behind it.
use Rattle.std.proofs.Common.{ℕ, suc, ◌≡◌, ◌-◌, ◌<◌, Bool, true, false, cond, ◌==◌, List, [], ◌∷◌, ◌++◌, length, drop, refl, sym, ap, subst, ◌∙◌, arith, append_assoc, length-append}
use Rattle.std.specs.Prelude.{slice_index}
use Rattle.std.specs.List.{concat}
use Rattle.std.proofs.lemmas.List.{take-append-drop}
use Rattle.hl_base.specs.Lines.{first_line, lines_of, onto}
use Rattle.hl_base.proofs.LineLemmas.{lines_split, take_first}
use Rattle.text_ends.specs.Ends.{ends_line}

-- ---- a text that ends with LF

-- an empty line
abbrev pub gap : List ℕ
gap = 10 ∷ []

-- a text is empty or ends with LF
abbrev pub EndsLine : List ℕ → Type 0
EndsLine [] = Unit {0}
EndsLine (b ∷ []) = (b == 10) ≡ true
EndsLine (b ∷ c ∷ cs) = EndsLine (c ∷ cs)

onto_front : (b : ℕ) (l : List ℕ) (ls whole more : List (List ℕ)) → whole ≡ l ∷ ls → onto b (whole ++ more) ≡ onto b whole ++ more
onto_front b l ls whole more e = ap (λ (w : List (List ℕ)). onto b (w ++ more)) e ∙ sym (ap (λ (w : List (List ℕ)). onto b w ++ more) e)

pub lines_front : (text more : List ℕ) → EndsLine text → lines_of (text ++ more) ≡ lines_of text ++ lines_of more
lines_front [] more ends = refl
lines_front (b ∷ []) more ends =
    ap (λ (t : Bool). cond t ((b ∷ []) ∷ lines_of more) (onto b (lines_of more))) ends
    ∙ sym (ap (λ (t : Bool). cond t ((b ∷ []) ∷ []) (onto b []) ++ lines_of more) ends)
lines_front (b ∷ c ∷ cs) more ends = by (b == 10) (lines_front (c ∷ cs) more ends)
  where
    by : (t : Bool) → lines_of ((c ∷ cs) ++ more) ≡ lines_of (c ∷ cs) ++ lines_of more
        → cond t ((b ∷ []) ∷ lines_of ((c ∷ cs) ++ more)) (onto b (lines_of ((c ∷ cs) ++ more))) ≡ cond t ((b ∷ []) ∷ lines_of (c ∷ cs)) (onto b (lines_of (c ∷ cs))) ++ lines_of more
    by true rest = ap (λ (ls : List (List ℕ)). (b ∷ []) ∷ ls) rest
    by false rest = ap (onto b) rest ∙ onto_front b _ _ (lines_of (c ∷ cs)) (lines_of more) (lines_split (c ∷ cs) (omega arith))

last_is : (b : ℕ) (bs : List ℕ) → ends_line (b ∷ bs) ≡ true → EndsLine (b ∷ bs)
last_is b [] h = h
last_is b (c ∷ cs) h =
    let place : length (b ∷ c ∷ cs) - 1 ≡ suc (length (c ∷ cs) - 1) = omega arith in
    last_is c cs (sym (ap (λ (k : ℕ). slice_index (b ∷ c ∷ cs) k == 10) place) ∙ h)

pub ends_with_line : (text : List ℕ) → ends_line text ≡ true → EndsLine text
ends_with_line [] h = tt
ends_with_line (b ∷ bs) h = last_is b bs h

concat_onto : (b : ℕ) (ls : List (List ℕ)) → concat (onto b ls) ≡ b ∷ concat ls
concat_onto b [] = refl
concat_onto b (l ∷ ls) = refl

pub concat_lines : (text : List ℕ) → concat (lines_of text) ≡ text
concat_lines [] = refl
concat_lines (b ∷ bs) = by (b == 10) (concat_lines bs)
  where
    by : (t : Bool) → concat (lines_of bs) ≡ bs → concat (cond t ((b ∷ []) ∷ lines_of bs) (onto b (lines_of bs))) ≡ b ∷ bs
    by true rest = ap (λ (xs : List ℕ). b ∷ xs) rest
    by false rest = concat_onto b (lines_of bs) ∙ ap (λ (xs : List ℕ). b ∷ xs) rest

-- ---- parts of a text

-- the line that a text begins with, and the rest
pub record IsSplit (x l : List ℕ) (ls : List (List ℕ)) : Type 0 where
  pub rest : List ℕ
  pub is : x ≡ l ++ rest
  pub lines : lines_of rest ≡ ls

pub same_head : (a b : List ℕ) (as_ bs_ : List (List ℕ)) → a ∷ as_ ≡ b ∷ bs_ → a ≡ b
same_head a b as_ bs_ h = cc

pub same_tail : (a b : List ℕ) (as_ bs_ : List (List ℕ)) → a ∷ as_ ≡ b ∷ bs_ → as_ ≡ bs_
same_tail a b as_ bs_ h = cc

pub split_of : (x l : List ℕ) (ls : List (List ℕ)) → lines_of x ≡ l ∷ ls → IsSplit x l ls
split_of [] l ls h = absurd (let never : ⊥ = cc in never)
split_of (b ∷ bs) l ls h =
    let x : List ℕ = b ∷ bs in
    let n = length (first_line x) in
    let both : first_line x ∷ lines_of (drop n x) ≡ l ∷ ls = sym (lines_split x (omega arith)) ∙ h in
    record {
      rest = drop n x;
      is = sym (take-append-drop n x) ∙ ap (λ (front : List ℕ). front ++ drop n x) (take_first x ∙ same_head (first_line x) l (lines_of (drop n x)) ls both);
      lines = same_tail (first_line x) l (lines_of (drop n x)) ls both;
    }

by_split : (b : ℕ) (bs x w : List ℕ) (ls : List (List ℕ)) → 0 < length ls → ((y : List ℕ) (ys : List (List ℕ)) → lines_of bs ≡ y ∷ ys → 0 < length ys → lines_of (y ++ w) ≡ y ∷ lines_of w)
    → (t : Bool) → (b == 10) ≡ t → (whole : List (List ℕ)) → lines_of bs ≡ whole → cond t ((b ∷ []) ∷ whole) (onto b whole) ≡ x ∷ ls → lines_of (x ++ w) ≡ x ∷ lines_of w
by_split b bs x w ls some next true e whole f k =
    let same = same_head (b ∷ []) x whole ls k in
    subst (λ (y : List ℕ). lines_of (y ++ w) ≡ y ∷ lines_of w) same (ap (λ (t : Bool). cond t ((b ∷ []) ∷ lines_of w) (onto b (lines_of w))) e)
by_split b bs x w ls some next false e [] f k = absurd (let none : [] ≡ ls = same_tail (b ∷ []) x [] ls k in let no : 0 ≡ length ls = ap length none in omega (arith, no, some))
by_split b bs x w ls some next false e (y ∷ ys) f k =
    let same = same_head (b ∷ y) x ys ls k in
    let rest = same_tail (b ∷ y) x ys ls k in
    let more = next y ys f (omega (arith, some, ap length rest)) in
    subst (λ (z : List ℕ). lines_of (z ++ w) ≡ z ∷ lines_of w) same
    (ap (λ (t : Bool). cond t ((b ∷ []) ∷ lines_of (y ++ w)) (onto b (lines_of (y ++ w)))) e ∙ ap (onto b) more)

split_more : (text x w : List ℕ) (ls : List (List ℕ)) → lines_of text ≡ x ∷ ls → 0 < length ls → lines_of (x ++ w) ≡ x ∷ lines_of w
split_more [] x w ls h some = absurd (let never : ⊥ = cc in never)
split_more (b ∷ bs) x w ls h some = by_split b bs x w ls some (λ y ys f s. split_more bs y w ys f s) (b == 10) refl (lines_of bs) refl h

pub lines_before : (xs ys : List (List ℕ)) (text w : List ℕ) → lines_of text ≡ xs ++ ys → 0 < length ys → lines_of (concat xs ++ w) ≡ xs ++ lines_of w
lines_before [] ys text w h some = refl
lines_before (x ∷ xs) ys text w h some =
    let split = split_of text x (xs ++ ys) h in
    ap lines_of (append_assoc x (concat xs) w)
    ∙ split_more text x (concat xs ++ w) (xs ++ ys) h (omega (arith, some, length-append xs ys))
    ∙ ap (λ (ls : List (List ℕ)). x ∷ ls) (lines_before xs ys split.rest w split.lines some)

pub lines_behind : (xs ys : List (List ℕ)) (text : List ℕ) → lines_of text ≡ xs ++ ys → lines_of (concat ys) ≡ ys
lines_behind [] ys text h = ap (λ (ls : List (List ℕ)). lines_of (concat ls)) (sym h) ∙ ap lines_of (concat_lines text) ∙ h
lines_behind (x ∷ xs) ys text h = let split = split_of text x (xs ++ ys) h in lines_behind xs ys split.rest split.lines

pub concat_parts : (xs ys : List (List ℕ)) → concat (xs ++ ys) ≡ concat xs ++ concat ys
concat_parts [] ys = refl
concat_parts (x ∷ xs) ys = ap (λ (zs : List ℕ). x ++ zs) (concat_parts xs ys) ∙ sym (append_assoc x (concat xs) (concat ys))
