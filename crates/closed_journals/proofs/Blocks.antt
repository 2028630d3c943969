-- What it means, line by line, that a text ends with a line's end and outside a comment block.
use Rattle.std.proofs.Common.{ℕ, zero, suc, ◌≡◌, ◌+◌, ◌-◌, Bool, true, false, cond, ◌==◌, ◌&&◌, ◌||◌, not, codes, List, [], ◌∷◌, ◌++◌, length, take, drop, refl, sym, ap, ◌∙◌, arith, append_assoc, length-append}
use Rattle.std.specs.Prelude.{slice_index}
use Rattle.std.specs.Cmp.Lexicographic.{pointwise}
use Rattle.std.specs.List.{concat, list_any, slice_get}
use Rattle.std.proofs.Math.Seq.{drop-append_seam}
use Rattle.std.proofs.lemmas.Bool.{eqb-true, false≢true}
use Rattle.std.proofs.lemmas.Bool.Decides.{nat_tests}
use Rattle.std.proofs.lemmas.List.{take-append-drop}
use Rattle.hl_base.specs.Items.{begins_entry, closes_block, cut_from, is_blank, is_indented, is_remark, kind_of, lines_more, lines_to_close, opens_block}
use Rattle.hl_base.specs.Lines.{first_line, lines_of}
use Rattle.hl_base.specs.declared.items.Kind.{Kind}
use Rattle.hl_base.specs.declared.items.Kind.TheVariants as kinds
use Rattle.hl_base.specs.declared.items.Piece.{Piece}
use Rattle.hl_base.proofs.LineLemmas.{lines_split, take_first}
use Rattle.live_journal.specs.Edits.{ends_line, has_open_block, is_block, is_open, last_piece, line_end}
use Rattle.closed_journals.proofs.Cuts.{EndsLine, open_in}

-- ---- the last byte

ends_by : (a e : Bool) → a ≡ false → cond {A = List ℕ} (a || e) [] (10 ∷ []) ≡ [] → e ≡ true
ends_by true e f h = absurd (false≢true (sym f))
ends_by false true f h = refl
ends_by false false f h = absurd (let never : ⊥ = cc in never)

pub some_bytes : (b : ℕ) (bs : List ℕ) → (length (b ∷ bs) == 0) ≡ false
some_bytes b bs = grind (arith, nat_tests)

last_is : (b : ℕ) (bs : List ℕ) → ends_line (b ∷ bs) ≡ true → EndsLine (b ∷ bs)
last_is b [] h = h
last_is b (c ∷ cs) h =
    let place : length (b ∷ c ∷ cs) - 1 ≡ suc (length (c ∷ cs) - 1) = omega arith in
    last_is c cs (sym (ap (λ (k : ℕ). slice_index (b ∷ c ∷ cs) k == 10) place) ∙ h)

pub ends_with_line : (text : List ℕ) → line_end text ≡ [] → EndsLine text
ends_with_line [] h = tt
ends_with_line (b ∷ bs) h = last_is b bs (ends_by (length (b ∷ bs) == 0) (ends_line (b ∷ bs)) (some_bytes b bs) h)

-- ---- lines that open and close blocks

opens_of : (o r i e : Bool) → is_block (cond o kinds.Block (cond r kinds.Gap (cond i kinds.Stray (cond e kinds.Entry kinds.Head)))) ≡ true → o ≡ true
opens_of true r i e h = refl
opens_of false true i e h = absurd (false≢true h)
opens_of false false true e h = absurd (false≢true h)
opens_of false false false true h = absurd (false≢true h)
opens_of false false false false h = absurd (false≢true h)

first_true : (a b c : Bool) → ((a && b) && c) ≡ true → a ≡ true
first_true true b c h = refl
first_true false b c h = h

apart : (l : List ℕ) → opens_block l ≡ true → closes_block l ≡ false
apart [] h = refl
apart (b ∷ bs) h =
    let is : (99 == b) ≡ true = first_true (99 == b) (pointwise (λ x y. x == y) (codes "omment") (take 6 bs)) (is_blank (drop 7 (b ∷ bs))) h in
    let other : (101 == b) ≡ false = ap (λ (k : ℕ). 101 == k) (sym (eqb-true 99 b is)) in
    ap (λ (t : Bool). (t && pointwise (λ x y. x == y) (codes "nd comment") (take 10 bs)) && is_blank (drop 11 (b ∷ bs))) other

block_opens : (l : List ℕ) → is_block (kind_of l) ≡ true → closes_block l ≡ false
block_opens l h = apart l (opens_of (opens_block l) (is_remark l) (is_indented l) (begins_entry l) h)

-- ---- the last piece

none_cut : (taken at line : ℕ) (ls : List (List ℕ)) → cut_from taken at line ls ≡ [] → open_in taken ls ≡ false
none_cut taken at line [] h = refl
none_cut (suc taken) at line (l ∷ ls) h = none_cut taken (at + length l) (line + 1) ls h
none_cut zero at line (l ∷ ls) h = absurd (let never : ⊥ = cc in never)

pub all_taken : (at line : ℕ) (ls : List (List ℕ)) → cut_from (length ls) at line ls ≡ []
all_taken at line [] = refl
all_taken at line (l ∷ ls) = all_taken (at + length l) (line + 1) ls

pub none_closes : (ls : List (List ℕ)) → list_any closes_block ls ≡ false → lines_to_close ls ≡ length ls
none_closes [] h = refl
none_closes (l ∷ ls) h = by (closes_block l) h (none_closes ls)
  where
    by : (t : Bool) → (t || list_any closes_block ls) ≡ false → (list_any closes_block ls ≡ false → lines_to_close ls ≡ length ls) → cond t 1 (lines_to_close ls + 1) ≡ suc (length ls)
    by true k f = absurd (false≢true (sym k))
    by false k f = let rest = f k in omega (arith, rest)

block_takes : (k : Kind) (at line : ℕ) (ls : List (List ℕ)) → (is_block k && not (list_any closes_block ls)) ≡ true → cut_from (lines_more k ls) at line ls ≡ []
block_takes kinds.Gap at line ls h = absurd (false≢true h)
block_takes kinds.Entry at line ls h = absurd (false≢true h)
block_takes kinds.Head at line ls h = absurd (false≢true h)
block_takes kinds.Stray at line ls h = absurd (false≢true h)
block_takes kinds.Block at line ls h = ap (λ (n : ℕ). cut_from n at line ls) (none_closes ls (no (list_any closes_block ls) h)) ∙ all_taken at line ls
  where
    no : (t : Bool) → (true && not t) ≡ true → t ≡ false
    no true k = absurd (false≢true k)
    no false k = refl

pub last_more : (p q : Piece) (qs : List Piece) → last_piece (p ∷ q ∷ qs) ≡ last_piece (q ∷ qs)
last_more p q qs =
    let place : length (p ∷ q ∷ qs) - 1 ≡ suc (length (q ∷ qs) - 1) = omega arith in
    ap (λ (k : ℕ). slice_get (p ∷ q ∷ qs) k) place

-- the line that a text begins with, and the rest
pub record IsSplit (x l : List ℕ) (ls : List (List ℕ)) : Type 0 where
  pub rest : List ℕ
  pub is : x ≡ l ++ rest
  pub lines : lines_of rest ≡ ls

pub same_head : (a b : List ℕ) (as_ bs_ : List (List ℕ)) → a ∷ as_ ≡ b ∷ bs_ → a ≡ b
same_head a b as_ bs_ h = cc

pub same_tail : (a b : List ℕ) (as_ bs_ : List (List ℕ)) → a ∷ as_ ≡ b ∷ bs_ → as_ ≡ bs_
same_tail a b as_ bs_ h = cc

pub split_of : (x l : List ℕ) (ls : List (List ℕ)) → lines_of x ≡ l ∷ ls → IsSplit x l ls
split_of [] l ls h = absurd (let never : ⊥ = cc in never)
split_of (b ∷ bs) l ls h =
    let x : List ℕ = b ∷ bs in
    let n = length (first_line x) in
    let both : first_line x ∷ lines_of (drop n x) ≡ l ∷ ls = sym (lines_split x (omega arith)) ∙ h in
    record {
      rest = drop n x;
      is = sym (take-append-drop n x) ∙ ap (λ (front : List ℕ). front ++ drop n x) (take_first x ∙ same_head (first_line x) l (lines_of (drop n x)) ls both);
      lines = same_tail (first_line x) l (lines_of (drop n x)) ls both;
    }

last_open : (k : Kind) (l : List ℕ) (ls : List (List ℕ)) → kind_of l ≡ k → (is_block k && not (closes_block l || list_any closes_block ls)) ≡ (is_block k && not (list_any closes_block ls))
last_open kinds.Gap l ls e = refl
last_open kinds.Entry l ls e = refl
last_open kinds.Head l ls e = refl
last_open kinds.Stray l ls e = refl
last_open kinds.Block l ls e = ap (λ (t : Bool). not (t || list_any closes_block ls)) (block_opens l (ap is_block e))

or_none : (a b : Bool) → b ≡ false → a ≡ (a || b)
or_none true b h = refl
or_none false b h = sym h

or_first : (a b c : Bool) → a ≡ false → b ≡ c → b ≡ (a || c)
or_first true b c e f = absurd (false≢true (sym e))
or_first false b c e f = f

by_rest : (text : List ℕ) (p : Piece) (rest : List Piece) (k : Kind) (l : List ℕ) (ls : List (List ℕ)) (later : Bool) → p.kind ≡ k → kind_of l ≡ k
    → list_any closes_block (lines_of (drop p.at text)) ≡ (closes_block l || list_any closes_block ls) → is_open text (last_piece rest) ≡ later
    → (rest ≡ [] → later ≡ false) → ((is_block k && not (list_any closes_block ls)) ≡ true → rest ≡ [])
    → is_open text (last_piece (p ∷ rest)) ≡ ((is_block k && not (list_any closes_block ls)) || later)
by_rest text p [] k l ls later ek el here e none takes =
    (λ i. is_block (ek i) && not (here i))
    ∙ last_open k l ls el
    ∙ or_none (is_block k && not (list_any closes_block ls)) later (none refl)
by_rest text p (q ∷ qs) k l ls later ek el here e none takes =
    ap (is_open text) (last_more p q qs)
    ∙ or_first (is_block k && not (list_any closes_block ls)) (is_open text (last_piece (q ∷ qs))) later (by (is_block k && not (list_any closes_block ls)) refl) e
  where
    by : (t : Bool) → (is_block k && not (list_any closes_block ls)) ≡ t → (is_block k && not (list_any closes_block ls)) ≡ false
    by true f = absurd (let never : q ∷ qs ≡ [] = takes f in let no : ⊥ = cc in no)
    by false f = f

-- The last piece is an open block exactly where the lines leave one open.
opens : (taken at line : ℕ) (ls : List (List ℕ)) (text front x : List ℕ) → text ≡ front ++ x → at ≡ length front → lines_of x ≡ ls
    → is_open text (last_piece (cut_from taken at line ls)) ≡ open_in taken ls
opens taken at line [] text front x is ea el = refl
opens (suc taken) at line (l ∷ ls) text front x is ea el =
    let split = split_of x l ls el in
    opens taken (at + length l) (line + 1) ls text (front ++ l) split.rest
    (is ∙ ap (λ (y : List ℕ). front ++ y) split.is ∙ sym (append_assoc front l split.rest)) (omega (arith, ea, length-append front l)) split.lines
opens zero at line (l ∷ ls) text front x is ea el =
    let split = split_of x l ls el in
    let k = kind_of l in
    let n = lines_more k ls in
    let later = opens n (at + length l) (line + 1) ls text (front ++ l) split.rest
    (is ∙ ap (λ (y : List ℕ). front ++ y) split.is ∙ sym (append_assoc front l split.rest)) (omega (arith, ea, length-append front l)) split.lines in
    let behind : drop at text ≡ x = ap (drop at) is ∙ ap (λ (j : ℕ). drop j (front ++ x)) ea ∙ drop-append_seam front x in
    let here : list_any closes_block (lines_of (drop at text)) ≡ (closes_block l || list_any closes_block ls) = ap (λ (y : List ℕ). list_any closes_block (lines_of y)) behind ∙ ap (list_any closes_block) el in
    by_rest text (record { at = at; len = length l + length (concat (take n ls)); line = line; kind = k }) (cut_from n (at + length l) (line + 1) ls) k l ls (open_in n ls) refl refl here later
    (λ none. none_cut n (at + length l) (line + 1) ls none) (λ open_. block_takes k (at + length l) (line + 1) ls open_)

-- A text leaves a block open exactly where its lines do.
pub open_block_is : (text : List ℕ) → has_open_block text ≡ open_in 0 (lines_of text)
open_block_is text = opens 0 0 1 (lines_of text) text [] text refl refl refl
