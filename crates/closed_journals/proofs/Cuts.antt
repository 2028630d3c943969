-- A text with both entries behind it is cut into the pieces of the text, and theirs.
use Rattle.std.proofs.Common.{ℕ, zero, suc, ◌≡◌, ◌+◌, ◌≤◌, Bool, true, false, cond, ◌==◌, ◌&&◌, ◌||◌, not, codes, List, [], ◌∷◌, ◌++◌, length, take, drop, refl, sym, ap, ◌∙◌, arith, length-append}
use Rattle.std.specs.Cmp.Lexicographic.{pointwise}
use Rattle.std.specs.List.{concat, list_any, prefix_len, take_while, AllByRecursion}
use Rattle.std.proofs.Math.Seq.{take-append_seam}
use Rattle.std.proofs.lemmas.Bool.{false≢true}
use Rattle.std.proofs.lemmas.Bool.Decides.{nat_tests}
use Rattle.std.proofs.lemmas.List.{take-append-le}
use Rattle.std.proofs.lemmas.List.Folds.{length-prefix_len}
use Rattle.std.proofs.lemmas.List.Sums.{prefix_len-le-length}
use Rattle.hl_base.specs.Items.{closes_block, cut_from, is_blank, is_digit, is_indented, is_remark, kind_of, lines_more, lines_to_close, opens_block}
use Rattle.hl_base.specs.Lines.{lines_of, onto}
use Rattle.hl_base.specs.declared.items.Kind.{Kind}
use Rattle.hl_base.specs.declared.items.Kind.TheVariants as kinds
use Rattle.hl_base.specs.declared.items.Piece.{Piece}
use Rattle.hl_base.proofs.LineLemmas.{lines_split}
use Rattle.entry_reader.specs.Lines.{first_is}
use Rattle.live_journal.specs.Edits.{is_block}

-- ---- the lines of a text and of what is behind it

-- a text is empty or ends with LF
abbrev pub EndsLine : List ℕ → Type 0
EndsLine [] = Unit {0}
EndsLine (b ∷ []) = (b == 10) ≡ true
EndsLine (b ∷ c ∷ cs) = EndsLine (c ∷ cs)

onto_front : (b : ℕ) (l : List ℕ) (ls whole more : List (List ℕ)) → whole ≡ l ∷ ls → onto b (whole ++ more) ≡ onto b whole ++ more
onto_front b l ls whole more e = ap (λ (w : List (List ℕ)). onto b (w ++ more)) e ∙ sym (ap (λ (w : List (List ℕ)). onto b w ++ more) e)

pub lines_front : (text more : List ℕ) → EndsLine text → lines_of (text ++ more) ≡ lines_of text ++ lines_of more
lines_front [] more ends = refl
lines_front (b ∷ []) more ends =
    ap (λ (t : Bool). cond t ((b ∷ []) ∷ lines_of more) (onto b (lines_of more))) ends
    ∙ sym (ap (λ (t : Bool). cond t ((b ∷ []) ∷ []) (onto b []) ++ lines_of more) ends)
lines_front (b ∷ c ∷ cs) more ends = by (b == 10) (lines_front (c ∷ cs) more ends)
  where
    by : (t : Bool) → lines_of ((c ∷ cs) ++ more) ≡ lines_of (c ∷ cs) ++ lines_of more
        → cond t ((b ∷ []) ∷ lines_of ((c ∷ cs) ++ more)) (onto b (lines_of ((c ∷ cs) ++ more))) ≡ cond t ((b ∷ []) ∷ lines_of (c ∷ cs)) (onto b (lines_of (c ∷ cs))) ++ lines_of more
    by true rest = ap (λ (ls : List (List ℕ)). (b ∷ []) ∷ ls) rest
    by false rest = ap (onto b) rest ∙ onto_front b _ _ (lines_of (c ∷ cs)) (lines_of more) (lines_split (c ∷ cs) (omega arith))

-- ---- a front of a text

-- a comment block is left open in some lines, of which the first few belong to the piece before
abbrev pub open_in : ℕ → List (List ℕ) → Bool
open_in taken [] = false
open_in (suc taken) (l ∷ ls) = open_in taken ls
open_in zero (l ∷ ls) = (is_block (kind_of l) && not (list_any closes_block ls)) || open_in (lines_more (kind_of l) ls) ls

-- lines that begin a piece of their own behind any other
pub record Begins (more : List (List ℕ)) : Type 0 where
  pub remark : prefix_len is_remark more ≡ 0
  pub indented : prefix_len is_indented more ≡ 0

first_or : (a b : Bool) → (a || b) ≡ false → a ≡ false
first_or true b h = h
first_or false b h = refl

second_or : (a b : Bool) → (a || b) ≡ false → b ≡ false
second_or true b h = absurd (false≢true (sym h))
second_or false b h = h

pub prefix_front : (p : List ℕ → Bool) (ls more : List (List ℕ)) → prefix_len p more ≡ 0 → prefix_len p (ls ++ more) ≡ prefix_len p ls
prefix_front p [] more h = h
prefix_front p (l ∷ ls) more h = ap (λ (n : ℕ). cond (p l) (1 + n) 0) (prefix_front p ls more h)

pub run_front : (p : List ℕ → Bool) (ls more : List (List ℕ)) → prefix_len p more ≡ 0 → length (take_while p (ls ++ more)) ≡ length (take_while p ls)
run_front p ls more h = length-prefix_len p (ls ++ more) ∙ prefix_front p ls more h ∙ sym (length-prefix_len p ls)

pub close_front : (ls more : List (List ℕ)) → list_any closes_block ls ≡ true → lines_to_close (ls ++ more) ≡ lines_to_close ls
close_front [] more h = absurd (false≢true h)
close_front (l ∷ ls) more h = by (closes_block l) h (close_front ls more)
  where
    by : (t : Bool) → (t || list_any closes_block ls) ≡ true → (list_any closes_block ls ≡ true → lines_to_close (ls ++ more) ≡ lines_to_close ls) → cond t 1 (lines_to_close (ls ++ more) + 1) ≡ cond t 1 (lines_to_close ls + 1)
    by true k f = refl
    by false k f = ap (λ (n : ℕ). n + 1) (f k)

pub closed_by : (a : Bool) → (true && not a) ≡ false → a ≡ true
closed_by true h = refl
closed_by false h = absurd (false≢true (sym h))

more_front : (k : Kind) (ls more : List (List ℕ)) → Begins more → (is_block k && not (list_any closes_block ls)) ≡ false → lines_more k (ls ++ more) ≡ lines_more k ls
more_front kinds.Gap ls more b h = run_front is_remark ls more b.remark
more_front kinds.Block ls more b h = close_front ls more (closed_by (list_any closes_block ls) h)
more_front kinds.Entry ls more b h = run_front is_indented ls more b.indented
more_front kinds.Head ls more b h = run_front is_indented ls more b.indented
more_front kinds.Stray ls more b h = run_front is_indented ls more b.indented

run_bound : (p : List ℕ → Bool) (ls : List (List ℕ)) → length (take_while p ls) ≤ length ls
run_bound p ls = omega (arith, length-prefix_len p ls, prefix_len-le-length p ls)

close_bound : (ls : List (List ℕ)) → lines_to_close ls ≤ length ls
close_bound [] = omega arith
close_bound (l ∷ ls) = by (closes_block l) (close_bound ls)
  where
    by : (t : Bool) → lines_to_close ls ≤ length ls → cond t 1 (lines_to_close ls + 1) ≤ suc (length ls)
    by true h = omega arith
    by false h = omega arith

pub more_bound : (k : Kind) (ls : List (List ℕ)) → lines_more k ls ≤ length ls
more_bound kinds.Gap ls = run_bound is_remark ls
more_bound kinds.Block ls = close_bound ls
more_bound kinds.Entry ls = run_bound is_indented ls
more_bound kinds.Head ls = run_bound is_indented ls
more_bound kinds.Stray ls = run_bound is_indented ls

abbrev piece : ℕ → ℕ → ℕ → Kind → Piece
piece at len line kind = record { at = at; len = len; line = line; kind = kind }

-- Behind a front without an open block the pieces go on with those of what is there.
pub cut_front : (taken at line : ℕ) (ls more : List (List ℕ)) → taken ≤ length ls → open_in taken ls ≡ false → Begins more
    → cut_from taken at line (ls ++ more) ≡ cut_from taken at line ls ++ cut_from 0 (at + length (concat ls)) (line + length ls) more
cut_front zero at line [] more few shut begins = λ i. cut_from 0 (same at i) (same line i) more
  where
    same : (n : ℕ) → n ≡ n + 0
    same n = omega arith
cut_front (suc taken) at line [] more few shut begins = absurd (omega arith)
cut_front (suc taken) at line (l ∷ ls) more few shut begins =
    cut_front taken (at + length l) (line + 1) ls more (omega arith) shut begins
    ∙ ap (λ (n : ℕ). cut_from taken (at + length l) (line + 1) ls ++ cut_from 0 n (line + 1 + length ls) more) (places at (length l) (length (concat ls)) (length-append l (concat ls)))
    ∙ ap (λ (n : ℕ). cut_from taken (at + length l) (line + 1) ls ++ cut_from 0 (at + length (concat (l ∷ ls))) n more) (numbers line (length ls))
  where
    places : (a x y : ℕ) {z : ℕ} → z ≡ x + y → a + x + y ≡ a + z
    places a x y e = omega (arith, e)

    numbers : (a n : ℕ) → a + 1 + n ≡ a + suc n
    numbers a n = omega arith
cut_front zero at line (l ∷ ls) more few shut begins =
    let k = kind_of l in
    let n = lines_more k ls in
    let bound = more_bound k ls in
    let closed = first_or (is_block k && not (list_any closes_block ls)) (open_in n ls) shut in
    let later = second_or (is_block k && not (list_any closes_block ls)) (open_in n ls) shut in
    ap (λ (j : ℕ). piece at (length l + length (concat (take j (ls ++ more)))) line k ∷ cut_from j (at + length l) (line + 1) (ls ++ more)) (more_front k ls more begins closed)
    ∙ ap (λ (xs : List (List ℕ)). piece at (length l + length (concat xs)) line k ∷ cut_from n (at + length l) (line + 1) (ls ++ more)) (take-append-le n ls more bound)
    ∙ ap (λ (ps : List Piece). piece at (length l + length (concat (take n ls))) line k ∷ ps)
    (cut_front n (at + length l) (line + 1) ls more bound later begins
    ∙ ap (λ (j : ℕ). cut_from n (at + length l) (line + 1) ls ++ cut_from 0 j (line + 1 + length ls) more) (places at (length l) (length (concat ls)) (length-append l (concat ls)))
    ∙ ap (λ (j : ℕ). cut_from n (at + length l) (line + 1) ls ++ cut_from 0 (at + length (concat (l ∷ ls))) j more) (numbers line (length ls)))
  where
    places : (a x y : ℕ) {z : ℕ} → z ≡ x + y → a + x + y ≡ a + z
    places a x y e = omega (arith, e)

    numbers : (a n : ℕ) → a + 1 + n ≡ a + suc n
    numbers a n = omega arith

-- ---- the pieces of two entries

not_block : (b : ℕ) (bs : List ℕ) → (99 == b) ≡ false → opens_block (b ∷ bs) ≡ false
not_block b bs e = ap (λ (t : Bool). (t && pointwise (λ x y. x == y) (codes "omment") (take 6 bs)) && is_blank (drop 7 (b ∷ bs))) e

digit_entry : (b : ℕ) (bs : List ℕ) → is_digit b ≡ true → kind_of (b ∷ bs) ≡ kinds.Entry
digit_entry b bs h =
    let e99 : (99 == b) ≡ false = grind (arith, nat_tests) in
    let e10 : (b == 10) ≡ false = grind (arith, nat_tests) in
    let e32 : (b == 32) ≡ false = grind (arith, nat_tests) in
    let e9 : (b == 9) ≡ false = grind (arith, nat_tests) in
    let e13 : (b == 13) ≡ false = grind (arith, nat_tests) in
    let e59 : (b == 59) ≡ false = grind (arith, nat_tests) in
    let e35 : (b == 35) ≡ false = grind (arith, nat_tests) in
    let e42 : (b == 42) ≡ false = grind (arith, nat_tests) in
    let block = not_block b bs e99 in
    rw (block, e32, e9, e13, e10, e59, e35, e42, h) refl

digit_remark : (b : ℕ) (bs : List ℕ) → is_digit b ≡ true → is_remark (b ∷ bs) ≡ false
digit_remark b bs h =
    let e10 : (b == 10) ≡ false = grind (arith, nat_tests) in
    let e32 : (b == 32) ≡ false = grind (arith, nat_tests) in
    let e9 : (b == 9) ≡ false = grind (arith, nat_tests) in
    let e13 : (b == 13) ≡ false = grind (arith, nat_tests) in
    let e59 : (b == 59) ≡ false = grind (arith, nat_tests) in
    let e35 : (b == 35) ≡ false = grind (arith, nat_tests) in
    let e42 : (b == 42) ≡ false = grind (arith, nat_tests) in
    rw (e32, e9, e13, e10, e59, e35, e42) refl

digit_indented : (b : ℕ) (bs : List ℕ) → is_digit b ≡ true → is_indented (b ∷ bs) ≡ false
digit_indented b bs h =
    let e32 : (b == 32) ≡ false = grind (arith, nat_tests) in
    let e9 : (b == 9) ≡ false = grind (arith, nat_tests) in
    let e13 : (b == 13) ≡ false = grind (arith, nat_tests) in
    rw (e32, e9, e13) refl

pub entry_kind : (text : List ℕ) → first_is is_digit text ≡ true → kind_of text ≡ kinds.Entry
entry_kind [] h = absurd (false≢true h)
entry_kind (b ∷ bs) h = digit_entry b bs h

pub entry_begins : (text : List ℕ) (more : List (List ℕ)) → first_is is_digit text ≡ true → Begins (text ∷ more)
entry_begins [] more h = absurd (false≢true h)
entry_begins (b ∷ bs) more h = record {
  remark = ap (λ (t : Bool). cond t (1 + prefix_len is_remark more) 0) (digit_remark b bs h);
  indented = ap (λ (t : Bool). cond t (1 + prefix_len is_indented more) 0) (digit_indented b bs h);
}

-- an empty line
abbrev pub gap : List ℕ
gap = 10 ∷ []

pub indented_front : (ps more : List (List ℕ)) → AllByRecursion (λ l. is_indented l ≡ true) ps → prefix_len is_indented (ps ++ gap ∷ more) ≡ length ps
indented_front [] more h = refl
indented_front (p ∷ ps) more h =
    let rest = indented_front ps more h.1 in
    let next : 1 + length ps ≡ suc (length ps) = omega arith in
    ap (λ (t : Bool). cond t (1 + prefix_len is_indented (ps ++ gap ∷ more)) 0) h.0 ∙ ap (λ (n : ℕ). 1 + n) rest ∙ next

pub skip : (ps more : List (List ℕ)) (at line at2 line2 : ℕ) → at2 ≡ at + length (concat ps) → line2 ≡ line + length ps → cut_from (length ps) at line (ps ++ more) ≡ cut_from 0 at2 line2 more
skip [] more at line at2 line2 ea el =
    let a : at ≡ at2 = omega arith in
    let l : line ≡ line2 = omega arith in
    ap (λ (k : ℕ). cut_from 0 k line more) a ∙ ap (λ (k : ℕ). cut_from 0 at2 k more) l
skip (p ∷ ps) more at line at2 line2 ea el =
    skip ps more (at + length p) (line + 1) at2 line2 (omega (arith, ea, length-append p (concat ps))) (omega arith)

pub gap_cut : (at line : ℕ) (more : List (List ℕ)) → prefix_len is_remark more ≡ 0 → cut_from 0 at line (gap ∷ more) ≡ piece at 1 line kinds.Gap ∷ cut_from 0 (at + 1) (line + 1) more
gap_cut at line more none =
    let count : length (take_while is_remark more) ≡ 0 = length-prefix_len is_remark more ∙ none in
    ap (λ (n : ℕ). piece at (1 + length (concat (take n more))) line kinds.Gap ∷ cut_from n (at + 1) (line + 1) more) count

-- an entry, and the empty line behind it
pub cut_entry : (at line : ℕ) (head : List ℕ) (ps more : List (List ℕ)) → kind_of head ≡ kinds.Entry → prefix_len is_indented (ps ++ gap ∷ more) ≡ length ps → prefix_len is_remark more ≡ 0
    → cut_from 0 at line (head ∷ (ps ++ gap ∷ more))
    ≡ piece at (length head + length (concat ps)) line kinds.Entry
    ∷ piece (at + (length head + length (concat ps))) 1 (line + 1 + length ps) kinds.Gap
    ∷ cut_from 0 (at + (length head + length (concat ps)) + 1) (line + 1 + length ps + 1) more
cut_entry at line head ps more kind all none =
    let ls = ps ++ gap ∷ more in
    let count : length (take_while is_indented ls) ≡ length ps = length-prefix_len is_indented ls ∙ all in
    let after = at + (length head + length (concat ps)) in
    let first = piece at (length head + length (concat ps)) line kinds.Entry in
    ap (λ (k : Kind). piece at (length head + length (concat (take (lines_more k ls) ls))) line k ∷ cut_from (lines_more k ls) (at + length head) (line + 1) ls) kind
    ∙ ap (λ (n : ℕ). piece at (length head + length (concat (take n ls))) line kinds.Entry ∷ cut_from n (at + length head) (line + 1) ls) count
    ∙ ap (λ (xs : List (List ℕ)). piece at (length head + length (concat xs)) line kinds.Entry ∷ cut_from (length ps) (at + length head) (line + 1) ls) (take-append_seam ps (gap ∷ more))
    ∙ ap (λ (pieces : List Piece). first ∷ pieces)
    (skip ps (gap ∷ more) (at + length head) (line + 1) after (line + 1 + length ps) (omega arith) refl
    ∙ gap_cut after (line + 1 + length ps) more none)
