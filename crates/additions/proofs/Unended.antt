-- What an added entry puts behind a text may stand there, whatever the text ends with; and has no more directives.
use Rattle.std.proofs.Common.{ℕ, zero, suc, ◌≡◌, ◌+◌, Bool, true, false, cond, ◌==◌, ◌&&◌, ◌||◌, not, codes, List, [], ◌∷◌, ◌++◌, length, take, drop, Option, Some, None, refl, sym, ap, subst, ◌∙◌, arith, append_assoc, append-nil, drop-drop}
use Rattle.std.specs.Prelude.{IfSome}
use Rattle.std.specs.Cmp.Lexicographic.{pointwise}
use Rattle.std.specs.List.{AllByRecursion, list_any}
use Rattle.std.proofs.lemmas.Bool.{eqb-true, false≢true}
use Rattle.std.proofs.lemmas.Bool.Decides.{nat_tests}
use Rattle.std.proofs.lemmas.List.Folds.{length-prefix_len}
use Rattle.hl_base.specs.Items.{begins_entry, closes_block, cut_from, is_blank, is_indented, is_remark, items_of, kind_of, lines_more, opens_block}
use Rattle.hl_base.specs.Lines.{lines_of}
use Rattle.hl_base.specs.Pieces.{bytes_left, span}
use Rattle.hl_base.specs.declared.items.Kind.{Kind}
use Rattle.hl_base.specs.declared.items.Kind.TheVariants as kinds
use Rattle.hl_base.specs.declared.items.Piece.{Piece}
use Rattle.book.specs.declared.item.Placed.{Placed}
use Rattle.entry_balance.proofs.Named.{left_true}
use Rattle.text_ends.specs.Ends.{end_of, ends_line, is_block, is_unclosed, last_of}
use Rattle.text_ends.specs.Growth.{begins_apart, begins_empty, bytes_joined, goes_behind, goes_indented, joins, lacked, put_behind, rest_of}
use Rattle.text_ends.specs.Told.{as_told, is_head, told_behind}
use Rattle.text_ends.proofs.Alike.{AreAlike, alike_grown, alike_indents, alike_remarks, alike_to_close, all_alike, grown, lacks_line, lines_grown}
use Rattle.text_ends.proofs.Cutting.{last, last_found}
use Rattle.text_ends.proofs.Lining.{gap, lines_front}
use Rattle.text_ends.proofs.Passing.{drop_lines, skip, unfold_more}
use Rattle.text_ends.proofs.Plain.{plain_told}
use Rattle.additions.specs.Adding.{added, ended}

-- ---- what may stand there

or_true : (b : Bool) → (b || true) ≡ true
or_true true = refl
or_true false = refl

-- what is put behind a text that isn't empty, by its last byte and whether it leaves a block open
abbrev put : Bool → Bool → List ℕ → List ℕ → List ℕ
put e u block x = cond {A = List ℕ} e [] gap ++ cond u block [] ++ gap ++ x

apart_at : (e u : Bool) (block x : List ℕ) (p : Piece) → (u ≡ true → goes_indented p.kind ≡ false) → begins_apart e (put e u block x) (Some p) ≡ true
apart_at true true block x p h = ap (λ (b : Bool). not b || begins_empty (put true true block x)) (h refl)
apart_at true false block x p h = or_true (not (goes_indented p.kind))
apart_at false true block x p h = ap (λ (b : Bool). not b || begins_empty (drop 1 (put false true block x))) (h refl)
apart_at false false block x p h = or_true (not (goes_indented p.kind))

apart_of : (e u : Bool) (block x : List ℕ) (o : Option Piece) → (u ≡ true → IfSome o (λ p. goes_indented p.kind ≡ false)) → begins_apart e (put e u block x) o ≡ true
apart_of e u block x None h = refl
apart_of e u block x (Some p) h = apart_at e u block x p h

block_apart : (k : Kind) → is_block k ≡ true → goes_indented k ≡ false
block_apart kinds.Gap h = refl
block_apart kinds.Block h = refl
block_apart kinds.Entry h = absurd (false≢true h)
block_apart kinds.Head h = absurd (false≢true h)
block_apart kinds.Stray h = absurd (false≢true h)

open_block : (text : List ℕ) (p : Piece) → is_unclosed text (Some p) ≡ true → is_block p.kind ≡ true
open_block text p h = left_true (is_block p.kind) (not (list_any closes_block (lines_of (drop p.at text)))) h

open_apart : (text : List ℕ) (o : Option Piece) → is_unclosed text o ≡ true → IfSome o (λ p. goes_indented p.kind ≡ false)
open_apart text None h = tt
open_apart text (Some p) h = block_apart p.kind (open_block text p h)

abbrev end_line : List ℕ
end_line = codes "end comment" ++ gap

not_empty : (b : ℕ) (bs : List ℕ) → (length (b ∷ bs) == 0) ≡ false
not_empty b bs = grind (arith, nat_tests)

-- what is put behind a text that isn't empty
added_is : (b : ℕ) (bs entry : List ℕ) → added (b ∷ bs) entry ≡ put (ends_line (b ∷ bs)) (is_unclosed (b ∷ bs) (last_of (items_of (b ∷ bs)))) end_line (ended entry)
added_is b bs entry =
    let text : List ℕ = b ∷ bs in
    let some = not_empty b bs in
    λ i. cond {A = List ℕ} (some i || ends_line text) [] gap ++ cond (is_unclosed text (last_of (items_of text))) end_line [] ++ cond {A = List ℕ} (some i) [] gap ++ ended entry

-- What an added entry puts behind a text may stand there.
pub added_behind : (year : Option ℕ) (text entry : List ℕ) (items : List Placed) → goes_behind (end_of year text items) (added text entry) ≡ true
added_behind year [] entry items = refl
added_behind year (b ∷ bs) entry items =
    let text : List ℕ = b ∷ bs in
    let last = last_of (items_of text) in
    ap (λ (all : List ℕ). begins_apart (ends_line text) all last) (added_is b bs entry)
    ∙ apart_of (ends_line text) (is_unclosed text last) end_line (ended entry) last (open_apart text last)

-- ---- no directives

abbrev NoHeads : List Piece → Type 0
NoHeads ps = AllByRecursion (λ p. is_head p.kind ≡ false) ps

more_alike : (k : Kind) (ls ms : List (List ℕ)) → AreAlike ls ms → lines_more k ms ≡ lines_more k ls
more_alike kinds.Gap ls ms h = length-prefix_len is_remark ms ∙ alike_remarks ls ms h ∙ sym (length-prefix_len is_remark ls)
more_alike kinds.Block ls ms h = alike_to_close ls ms h
more_alike kinds.Entry ls ms h = length-prefix_len is_indented ms ∙ alike_indents ls ms h ∙ sym (length-prefix_len is_indented ls)
more_alike kinds.Head ls ms h = length-prefix_len is_indented ms ∙ alike_indents ls ms h ∙ sym (length-prefix_len is_indented ls)
more_alike kinds.Stray ls ms h = length-prefix_len is_indented ms ∙ alike_indents ls ms h ∙ sym (length-prefix_len is_indented ls)

-- lines of the same kinds make pieces of the same kinds, wherever they begin
likes : (n at line at' line' : ℕ) (ls ms : List (List ℕ)) → AreAlike ls ms → NoHeads (cut_from n at line ls) → NoHeads (cut_from n at' line' ms)
likes n at line at' line' [] [] a h = tt
likes n at line at' line' [] (m ∷ ms) a h = absurd a
likes n at line at' line' (x ∷ ls) [] a h = absurd a
likes (suc n) at line at' line' (x ∷ ls) (m ∷ ms) a h = likes n (at + length x) (line + 1) (at' + length m) (line' + 1) ls ms a.1 h
likes zero at line at' line' (x ∷ ls) (m ∷ ms) a h =
    let same : kind_of m ≡ kind_of x = (a.0).kind in
    let more : lines_more (kind_of x) ls ≡ lines_more (kind_of m) ms = sym (ap (λ (k : Kind). lines_more k ms) same ∙ more_alike (kind_of x) ls ms a.1) in (
      ap is_head same ∙ h.0,
      likes (lines_more (kind_of m) ms) (at + length x) (line + 1) (at' + length m) (line' + 1) ls ms a.1
          (subst (λ (n : ℕ). NoHeads (cut_from n (at + length x) (line + 1) ls)) more h.1),
    )

moved : (n at line at' line' : ℕ) (ls : List (List ℕ)) → NoHeads (cut_from n at line ls) → NoHeads (cut_from n at' line' ls)
moved n at line at' line' ls h = likes n at line at' line' ls ls (all_alike ls) h

-- with the LF that it lacks
ended_by : (b : ℕ) (bs : List ℕ) (e : Bool) → ends_line (b ∷ bs) ≡ e → NoHeads (items_of (b ∷ bs)) → NoHeads (items_of ((b ∷ bs) ++ cond {A = List ℕ} e [] gap))
ended_by b bs true is h = subst (λ (t : List ℕ). NoHeads (items_of t)) (sym (append-nil (b ∷ bs))) h
ended_by b bs false is h =
    subst (λ (ls : List (List ℕ)). NoHeads (cut_from 0 0 1 ls)) (sym (lines_grown b bs (lacks_line (b ∷ bs) is)))
    (likes 0 0 1 0 1 (lines_of (b ∷ bs)) (grown (lines_of (b ∷ bs))) (alike_grown (lines_of (b ∷ bs))) h)

ended_is : (b : ℕ) (bs : List ℕ) → ended (b ∷ bs) ≡ (b ∷ bs) ++ cond {A = List ℕ} (ends_line (b ∷ bs)) [] gap
ended_is b bs = ap (λ (t : Bool). (b ∷ bs) ++ cond {A = List ℕ} (t || ends_line (b ∷ bs)) [] gap) (not_empty b bs)

ended_plain : (entry : List ℕ) → NoHeads (items_of entry) → NoHeads (items_of (ended entry))
ended_plain [] h = tt
ended_plain (b ∷ bs) h = subst (λ (t : List ℕ). NoHeads (items_of t)) (sym (ended_is b bs)) (ended_by b bs (ends_line (b ∷ bs)) refl h)

-- a remark opens no block
not_block : (b : ℕ) (bs : List ℕ) → (99 == b) ≡ false → opens_block (b ∷ bs) ≡ false
not_block b bs e = ap (λ (t : Bool). (t && pointwise (λ x y. x == y) (codes "omment") (take 6 bs)) && is_blank (drop 7 (b ∷ bs))) e

no_remark : (b : ℕ) (bs : List ℕ) → b ≡ 99 → is_remark (b ∷ bs) ≡ false
no_remark b bs e = ap (λ (x : ℕ). is_remark (x ∷ bs)) e

opens_none : (b : ℕ) (bs : List ℕ) → is_remark (b ∷ bs) ≡ true → opens_block (b ∷ bs) ≡ false
opens_none b bs h = by (99 == b) refl
  where
    by : (t : Bool) → (99 == b) ≡ t → opens_block (b ∷ bs) ≡ false
    by true e = absurd (false≢true (sym (no_remark b bs (sym (eqb-true 99 b e))) ∙ h))
    by false e = not_block b bs e

remark_gap : (m : List ℕ) → is_remark m ≡ true → kind_of m ≡ kinds.Gap
remark_gap [] h = refl
remark_gap (b ∷ bs) h =
    let o = opens_none b bs h in
    λ i. cond (o i) kinds.Block (cond (h i) kinds.Gap (cond (is_indented (b ∷ bs)) kinds.Stray (cond (begins_entry (b ∷ bs)) kinds.Entry kinds.Head)))

-- behind the remarks that they begin with
after_remarks : (at line at' line' : ℕ) (ls : List (List ℕ)) → NoHeads (cut_from 0 at line ls) → NoHeads (cut_from (lines_more kinds.Gap ls) at' line' ls)
after_remarks at line at' line' [] h = tt
after_remarks at line at' line' (m ∷ ms) h = by (is_remark m) refl
  where
    n : ℕ
    n = lines_more kinds.Gap ms

    unfolded : (t : Bool) → is_remark m ≡ t → lines_more kinds.Gap (m ∷ ms) ≡ cond t (n + 1) 0
    unfolded t e = unfold_more kinds.Gap m ms ∙ ap (λ (b : Bool). cond b (n + 1) 0) e

    first : is_remark m ≡ true → NoHeads (cut_from (n + 1) at' line' (m ∷ ms))
    first e =
        let one : n + 1 ≡ suc n = omega arith in
        let rest : NoHeads (cut_from n (at + length m) (line + 1) ms) = subst (λ (k : Kind). NoHeads (cut_from (lines_more k ms) (at + length m) (line + 1) ms)) (remark_gap m e) h.1 in
        subst (λ (k : ℕ). NoHeads (cut_from k at' line' (m ∷ ms))) (sym one) (moved n (at + length m) (line + 1) (at' + length m) (line' + 1) ms rest)

    by : (t : Bool) → is_remark m ≡ t → NoHeads (cut_from (lines_more kinds.Gap (m ∷ ms)) at' line' (m ∷ ms))
    by true e = subst (λ (k : ℕ). NoHeads (cut_from k at' line' (m ∷ ms))) (sym (unfolded true e)) (first e)
    by false e = subst (λ (k : ℕ). NoHeads (cut_from k at' line' (m ∷ ms))) (sym (unfolded false e)) (moved 0 at line at' line' (m ∷ ms) h)

-- behind an empty line
gap_plain : (x : List ℕ) → NoHeads (items_of x) → NoHeads (items_of (10 ∷ x))
gap_plain x h = (refl, after_remarks 0 1 (0 + 1) (1 + 1) (lines_of x) h)

-- the rest of some lines
drop_plain : (n : ℕ) (r : List ℕ) → NoHeads (cut_from n 0 1 (lines_of r)) → NoHeads (items_of (drop (span n (lines_of r)) r))
drop_plain n r h =
    let ls = lines_of r in
    let left : drop n ls ≡ lines_of (drop (span n ls) r) = drop_lines n r 0 ∙ ap (λ (j : ℕ). lines_of (drop j r)) (let z : 0 + span n ls ≡ span n ls = omega arith in z) in
    subst (λ (ms : List (List ℕ)). NoHeads (cut_from 0 0 1 ms)) left
    (moved 0 (0 + span n ls) (1 + n) 0 1 (drop n ls) (subst NoHeads (skip n 0 1 ls) h))

-- ---- what the last piece doesn't take

abbrev rest_by : Kind → Bool → List ℕ → List ℕ
rest_by k u r = drop (cond (joins k u) (span (lines_more k (lines_of r)) (lines_of r)) 0) r

closed_rest : (k : Kind) (x : List ℕ) → NoHeads (items_of x) → NoHeads (items_of (rest_by k false (10 ∷ x)))
closed_rest kinds.Gap x h = drop_plain (lines_more kinds.Gap (lines_of (10 ∷ x))) (10 ∷ x) (after_remarks 0 1 0 1 (lines_of (10 ∷ x)) (gap_plain x h))
closed_rest kinds.Block x h = gap_plain x h
closed_rest kinds.Entry x h = gap_plain x h
closed_rest kinds.Head x h = gap_plain x h
closed_rest kinds.Stray x h = gap_plain x h

-- the line that ends a block is the last that the block takes
block_rest : (x : List ℕ) → rest_by kinds.Block true (end_line ++ (10 ∷ x)) ≡ 10 ∷ x
block_rest x =
    let y : List ℕ = 10 ∷ x in
    let ls : lines_of (end_line ++ y) ≡ end_line ∷ lines_of y = lines_front end_line y refl in
    ap (λ (ms : List (List ℕ)). drop (span (lines_more kinds.Block ms) ms) (end_line ++ y)) ls

open_rest : (k : Kind) (x : List ℕ) → is_block k ≡ true → NoHeads (items_of x) → NoHeads (items_of (rest_by k true (end_line ++ (10 ∷ x))))
open_rest kinds.Gap x b h = absurd (false≢true b)
open_rest kinds.Block x b h = subst (λ (t : List ℕ). NoHeads (items_of t)) (sym (block_rest x)) (gap_plain x h)
open_rest kinds.Entry x b h = absurd (false≢true b)
open_rest kinds.Head x b h = absurd (false≢true b)
open_rest kinds.Stray x b h = absurd (false≢true b)

-- behind the LF that the text lacks
behind_end : (e u : Bool) (block x : List ℕ) → drop (lacked e) (put e u block x) ≡ cond u block [] ++ (10 ∷ x)
behind_end true true block x = append_assoc block gap x
behind_end true false block x = refl
behind_end false true block x = append_assoc block gap x
behind_end false false block x = refl

-- what is taken of it, and the rest
rest_at : (e u : Bool) (k : Kind) (block x : List ℕ)
    → drop (lacked e + cond (joins k u) (bytes_left k (put e u block x) (lacked e)) 0) (put e u block x) ≡ rest_by k u (cond u block [] ++ (10 ∷ x))
rest_at e u k block x =
    let all = put e u block x in
    let m = cond (joins k u) (bytes_left k all (lacked e)) 0 in
    sym (drop-drop m (lacked e) all)
    ∙ ap (rest_by k u) (behind_end e u block x)

by_last : (e u : Bool) (k : Kind) (x : List ℕ) → (u ≡ true → is_block k ≡ true) → NoHeads (items_of x) → NoHeads (items_of (rest_by k u (cond u end_line [] ++ (10 ∷ x))))
by_last e true k x b h = open_rest k x (b refl) h
by_last e false k x b h = closed_rest k x h

some_rest : (e u : Bool) (p : Piece) (x : List ℕ) → (u ≡ true → is_block p.kind ≡ true) → NoHeads (items_of x)
    → NoHeads (items_of (drop (lacked e + cond (joins p.kind u) (bytes_left p.kind (put e u end_line x) (lacked e)) 0) (put e u end_line x)))
some_rest e u p x b h = subst (λ (t : List ℕ). NoHeads (items_of t)) (sym (rest_at e u p.kind end_line x)) (by_last e u p.kind x b h)

-- of a text that isn't empty
rest_plain : (year : Option ℕ) (b : ℕ) (bs entry : List ℕ) (items : List Placed) → NoHeads (items_of entry) → NoHeads (items_of (rest_of (end_of year (b ∷ bs) items) (added (b ∷ bs) entry)))
rest_plain year b bs entry items h =
    let text : List ℕ = b ∷ bs in
    let e = end_of year text items in
    let found = last_found b bs in
    let u = is_unclosed text (last_of (items_of text)) in
    let all = put (ends_line text) u end_line (ended entry) in
    subst (λ (t : List ℕ). NoHeads (items_of (rest_of e t))) (sym (added_is b bs entry))
    (subst (λ (o : Option Piece). NoHeads (items_of (drop (bytes_joined e all o) all))) (sym found)
    (some_rest (ends_line text) u (last b bs) (ended entry) (λ open_there. open_block text (last b bs) (ap (is_unclosed text) (sym found) ∙ open_there)) (ended_plain entry h)))

no_heads : (year : Option ℕ) (text entry : List ℕ) (items : List Placed) → NoHeads (items_of entry) → NoHeads (items_of (rest_of (end_of year text items) (added text entry)))
no_heads year [] entry items h = ended_plain entry h
no_heads year (b ∷ bs) entry items h = rest_plain year b bs entry items h

-- all that comes of it is told
pub added_told : (year : Option ℕ) (text entry : List ℕ) (items : List Placed) → AllByRecursion (λ p. is_head p.kind ≡ false) (items_of entry)
    → told_behind (end_of year text items) (added text entry) ≡ as_told (put_behind (end_of year text items) (added text entry))
added_told year text entry items h = plain_told (end_of year text items) (added text entry) (no_heads year text entry items h)
