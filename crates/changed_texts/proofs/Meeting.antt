-- Lines behind others are cut as they are by themselves, but that gaps which meet are one.
use Rattle.std.proofs.Common.{ℕ, zero, suc, ◌≡◌, ◌+◌, ◌-◌, ◌<◌, ◌≤◌, inl, inr, Bool, true, false, cond, ◌&&◌, List, [], ◌∷◌, ◌++◌, length, take, map, Option, Some, None, refl, sym, ap, subst, ◌∙◌, arith, append_assoc, append-nil, length-append}
use Rattle.std.specs.List.{concat, prefix_len, take_while, AllByRecursion}
use Rattle.std.proofs.lemmas.Bool.{cases_lt, false≢true}
use Rattle.std.proofs.lemmas.List.{take-append-le}
use Rattle.std.proofs.lemmas.List.Folds.{length-prefix_len}
use Rattle.hl_base.specs.Items.{begins_entry, cut_from, is_indented, is_remark, items_of, kind_of, lines_more, opens_block}
use Rattle.hl_base.specs.Lines.{lines_of}
use Rattle.hl_base.specs.declared.items.Kind.{Kind}
use Rattle.hl_base.specs.declared.items.Kind.TheVariants as kinds
use Rattle.hl_base.specs.declared.items.Piece.{Piece}
use Rattle.moved_lines.specs.Moving.{moved_piece}
use Rattle.text_ends.specs.Growth.{shifted}
use Rattle.text_ends.proofs.Lining.{EndsLine, concat_lines, ends_with_line, lines_front}
use Rattle.changed_texts.specs.Meeting.{AreEntries, is_ended, is_entry_or_gap, meeting, met_pieces, with_piece}
use Rattle.changed_texts.specs.Replacing.{IsEntryOf, is_gap, offset_of, replaced}
use Rattle.changed_texts.proofs.Cuts.{Stops, all_run, bytes_more, cut_none, cut_one, kind_before, more_bound, more_inside, numbers, piece, same}
use Rattle.changed_texts.proofs.Cutting.{front_now, rest, rest_is, rest_moved}
use Rattle.changed_texts.proofs.Found.{Found, found, parted}
use Rattle.changed_texts.proofs.Leaving.{none_indented, opens_no_remark}
use Rattle.changed_texts.proofs.Lines.{concat_both}

-- ---- gaps

by_remark : (a b c d : Bool) → (a ≡ true → b ≡ false) → is_gap (cond a kinds.Block (cond b kinds.Gap (cond c kinds.Stray (cond d kinds.Entry kinds.Head)))) ≡ b
by_remark true b c d f = sym (f refl)
by_remark false true c d f = refl
by_remark false false true d f = refl
by_remark false false false true f = refl
by_remark false false false false f = refl

-- a line begins a gap exactly where it is a remark
pub gap_is : (y : List ℕ) → is_gap (kind_of y) ≡ is_remark y
gap_is y = by_remark (opens_block y) (is_remark y) (is_indented y) (begins_entry y) (opens_no_remark y)

gap_kind : (k : Kind) → is_gap k ≡ true → k ≡ kinds.Gap
gap_kind kinds.Gap h = refl
gap_kind kinds.Block h = absurd (false≢true h)
gap_kind kinds.Entry h = absurd (false≢true h)
gap_kind kinds.Head h = absurd (false≢true h)
gap_kind kinds.Stray h = absurd (false≢true h)

-- a piece that is no gap stands before any others
with_other : (p : Piece) (qs : List Piece) → is_gap p.kind ≡ false → with_piece p qs ≡ p ∷ qs
with_other p [] e = refl
with_other p (q ∷ qs) e = ap (λ (t : Bool). cond (t && is_gap q.kind) (piece p.at (p.len + q.len) p.line p.kind ∷ qs) (p ∷ q ∷ qs)) e

-- any piece stands before one that is no gap
with_next : (p q : Piece) (qs : List Piece) → is_gap q.kind ≡ false → with_piece p (q ∷ qs) ≡ p ∷ q ∷ qs
with_next p q qs e = ap (λ (t : Bool). cond (is_gap p.kind && t) (piece p.at (p.len + q.len) p.line p.kind ∷ qs) (p ∷ q ∷ qs)) e ∙ by (is_gap p.kind)
  where
    by : (t : Bool) → cond (t && false) (piece p.at (p.len + q.len) p.line p.kind ∷ qs) (p ∷ q ∷ qs) ≡ p ∷ q ∷ qs
    by true = refl
    by false = refl

abbrev gap : ℕ → ℕ → ℕ → Piece
gap at len line = piece at len line kinds.Gap

with_gap : (at len line : ℕ) (q : Piece) (qs : List Piece) → is_gap q.kind ≡ true → with_piece (gap at len line) (q ∷ qs) ≡ gap at (len + q.len) line ∷ qs
with_gap at len line q qs e = ap (λ (t : Bool). cond (true && t) (gap at (len + q.len) line ∷ qs) (gap at len line ∷ q ∷ qs)) e

-- ---- runs of lines

run_through : (p : List ℕ → Bool) (own post : List (List ℕ)) → prefix_len p own ≡ length own → prefix_len p (own ++ post) ≡ length own + prefix_len p post
run_through p [] post h = omega arith
run_through p (l ∷ own) post h = by (p l) h (λ k. run_through p own post k)
  where
    by : (t : Bool) → cond t (1 + prefix_len p own) 0 ≡ suc (length own) → (prefix_len p own ≡ length own → prefix_len p (own ++ post) ≡ length own + prefix_len p post) → cond t (1 + prefix_len p (own ++ post)) 0 ≡ suc (length own) + prefix_len p post
    by true k f = let more = f (omega (arith, k)) in omega (arith, more)
    by false k f = absurd (omega (arith, k))

-- the lines of some that a run takes, and the others
record Run (p : List ℕ → Bool) (ls : List (List ℕ)) : Type 0 where
  front : List (List ℕ)
  back : List (List ℕ)
  is : ls ≡ front ++ back
  all : prefix_len p front ≡ length front
  none : prefix_len p back ≡ 0

run_one : (p : List ℕ → Bool) (l : List ℕ) (ls : List (List ℕ)) (t : Bool) → p l ≡ t → Run p ls → Run p (l ∷ ls)
run_one p l ls true e r =
    let all = r.all in
    let step : 1 + prefix_len p r.front ≡ suc (length r.front) = omega (arith, all) in
    record {
      front = l ∷ r.front;
      back = r.back;
      is = ap (λ (ks : List (List ℕ)). l ∷ ks) r.is;
      all = ap (λ (t : Bool). cond t (1 + prefix_len p r.front) 0) e ∙ step;
      none = r.none;
    }
run_one p l ls false e r = record { front = []; back = l ∷ ls; is = refl; all = refl; none = ap (λ (t : Bool). cond t (1 + prefix_len p ls) 0) e }

run : (p : List ℕ → Bool) (ls : List (List ℕ)) → Run p ls
run p [] = record { front = []; back = []; is = refl; all = refl; none = refl }
run p (l ∷ ls) = run_one p l ls (p l) refl (run p ls)

-- ---- a gap before other lines

-- they don't go on with it
gap_alone : (at line : ℕ) (l : List ℕ) (own zs : List (List ℕ)) → kind_of l ≡ kinds.Gap → prefix_len is_remark own ≡ length own → prefix_len is_remark zs ≡ 0
    → cut_from 0 at line (l ∷ (own ++ zs)) ≡ gap at (length (concat (l ∷ own))) line ∷ cut_from 0 (at + length (concat (l ∷ own))) (line + length (l ∷ own)) zs
gap_alone at line l own zs k all none =
    let takes : lines_more (kind_of l) (own ++ zs) ≡ length own = ap (λ (j : Kind). lines_more j (own ++ zs)) k ∙ length-prefix_len is_remark (own ++ zs) ∙ all_run is_remark own zs all none in
    cut_one l own zs at line takes
    ∙ ap (λ (j : Kind). piece at (length (concat (l ∷ own))) line j ∷ cut_from 0 (at + length (concat (l ∷ own))) (line + length (l ∷ own)) zs) k

assoc : (a b c : ℕ) → a + (b + c) ≡ a + b + c
assoc a b c = omega arith

-- they go on with it: the gap has them too
gap_both : (at line : ℕ) (l : List ℕ) (own : List (List ℕ)) (z : List ℕ) (more post : List (List ℕ)) → kind_of l ≡ kinds.Gap → kind_of z ≡ kinds.Gap → prefix_len is_remark own ≡ length own → is_remark z ≡ true
    → prefix_len is_remark more ≡ length more → prefix_len is_remark post ≡ 0
    → cut_from 0 at line (l ∷ (own ++ (z ∷ (more ++ post)))) ≡ with_piece (gap at (length (concat (l ∷ own))) line) (cut_from 0 (at + length (concat (l ∷ own))) (line + length (l ∷ own)) (z ∷ (more ++ post)))
gap_both at line l own z more post k j all e through none =
    let both = own ++ z ∷ more in
    let x = length (concat (l ∷ own)) in
    let y = length (concat (z ∷ more)) in
    let remarks : prefix_len is_remark (z ∷ more) ≡ 1 + length more = ap (λ (t : Bool). cond t (1 + prefix_len is_remark more) 0) e ∙ ap (λ (m : ℕ). 1 + m) through in
    let whole : prefix_len is_remark both ≡ length both = omega (arith, run_through is_remark own (z ∷ more) all, remarks, length-append own (z ∷ more)) in
    let size : length (concat (l ∷ both)) ≡ x + y = omega (arith, ap length (concat_both own (z ∷ more)), length-append l (concat both), length-append l (concat own), length-append (concat own) (concat (z ∷ more))) in
    let count : length (l ∷ both) ≡ length (l ∷ own) + length (z ∷ more) = omega (arith, length-append own (z ∷ more)) in
    ap (λ (ks : List (List ℕ)). cut_from 0 at line (l ∷ ks)) (sym (append_assoc own (z ∷ more) post))
    ∙ gap_alone at line l both post k whole none
    ∙ (λ i. gap at (size i) line ∷ cut_from 0 (at + size i) (line + count i) post)
    ∙ (λ i. gap at (x + y) line ∷ cut_from 0 (assoc at x y i) (assoc line (length (l ∷ own)) (length (z ∷ more)) i) post)
    ∙ sym (with_gap at x line (gap (at + x) y (line + length (l ∷ own))) (cut_from 0 (at + x + y) (line + length (l ∷ own) + length (z ∷ more)) post) refl)
    ∙ sym (ap (with_piece (gap at x line)) (gap_alone (at + x) (line + length (l ∷ own)) z more post j through none))

-- a gap and the pieces of the lines behind it
GapMeets : ℕ → ℕ → List ℕ → List (List ℕ) → List (List ℕ) → Type 0
GapMeets at line l own zs = cut_from 0 at line (l ∷ (own ++ zs)) ≡ with_piece (gap at (length (concat (l ∷ own))) line) (cut_from 0 (at + length (concat (l ∷ own))) (line + length (l ∷ own)) zs)

gap_meets : (at line : ℕ) (l : List ℕ) (own zs : List (List ℕ)) → kind_of l ≡ kinds.Gap → prefix_len is_remark own ≡ length own → GapMeets at line l own zs
unfolding GapMeets
gap_meets at line l own [] k all = gap_alone at line l own [] k all refl
gap_meets at line l own (z ∷ zs) k all = by (is_remark z) refl (run is_remark zs)
  where
    by : (t : Bool) → is_remark z ≡ t → Run is_remark zs → cut_from 0 at line (l ∷ (own ++ z ∷ zs)) ≡ with_piece (gap at (length (concat (l ∷ own))) line) (cut_from 0 (at + length (concat (l ∷ own))) (line + length (l ∷ own)) (z ∷ zs))
    by true e r =
        subst (λ (ws : List (List ℕ)). cut_from 0 at line (l ∷ (own ++ z ∷ ws)) ≡ with_piece (gap at (length (concat (l ∷ own))) line) (cut_from 0 (at + length (concat (l ∷ own))) (line + length (l ∷ own)) (z ∷ ws))) (sym r.is)
        (gap_both at line l own z r.front r.back k (gap_kind (kind_of z) (gap_is z ∙ e)) all e r.all r.none)
    by false e r =
        gap_alone at line l own (z ∷ zs) k all (ap (λ (t : Bool). cond t (1 + prefix_len is_remark zs) 0) e)
        ∙ sym (with_next (gap at (length (concat (l ∷ own))) line) _ _ (gap_is z ∙ e))

-- ---- any pieces before other lines

abbrev is_block : Kind → Bool
is_block kinds.Block = true
is_block kinds.Gap = false
is_block kinds.Entry = false
is_block kinds.Head = false
is_block kinds.Stray = false

-- the last of some pieces doesn't pass
abbrev NotLast : (Kind → Bool) → List Piece → Type 0
NotLast t [] = Unit {0}
NotLast t (p ∷ []) = t p.kind ≡ false
NotLast t (p ∷ q ∷ ps) = NotLast t (q ∷ ps)

not_rest : (t : Kind → Bool) (p : Piece) (ps : List Piece) → NotLast t (p ∷ ps) → NotLast t ps
not_rest t p [] h = tt
not_rest t p (q ∷ qs) h = h

no_less : (a b : ℕ) → a < b → b ≤ a → ⊥
no_less a b h k = omega (arith, h, k)

some_more : {X : Type 0} (xs : List X) → (xs ≡ [] → ⊥) → 0 < length xs
some_more [] h = absurd (h refl)
some_more (x ∷ xs) h = omega arith

-- a piece before some more
meeting_more : (p : Piece) (ps qs : List Piece) → 0 < length ps → meeting (p ∷ ps) qs ≡ p ∷ meeting ps qs
meeting_more p [] qs h = absurd (omega arith)
meeting_more p (q ∷ ps) qs h = refl

meeting_one : (p : Piece) (ps qs : List Piece) → ps ≡ [] → meeting (p ∷ ps) qs ≡ with_piece p qs
meeting_one p ps qs e = ap (λ (rs : List Piece). meeting (p ∷ rs) qs) e

all_taken : (at line : ℕ) (ls : List (List ℕ)) → cut_from (length ls) at line ls ≡ []
all_taken at line [] = refl
all_taken at line (l ∷ ls) = all_taken (at + length l) (line + 1) ls

-- indented lines, and others behind them
run_on : (ls ys : List (List ℕ)) → length (take_while is_indented ls) ≡ length ls → prefix_len is_indented ys ≡ 0 → length (take_while is_indented (ls ++ ys)) ≡ length ls
run_on ls ys whole none = length-prefix_len is_indented (ls ++ ys) ∙ all_run is_indented ls ys (sym (length-prefix_len is_indented ls) ∙ whole) none

closed_meets : (k : Kind) (at line : ℕ) (l : List ℕ) (ls ys : List (List ℕ)) → kind_of l ≡ k → lines_more k (ls ++ ys) ≡ length ls → is_gap k ≡ false
    → cut_from 0 at line (l ∷ (ls ++ ys)) ≡ with_piece (piece at (length (concat (l ∷ ls))) line k) (cut_from 0 (at + length (concat (l ∷ ls))) (line + length (l ∷ ls)) ys)
closed_meets k at line l ls ys e takes apart =
    let x = length (concat (l ∷ ls)) in
    let behind = cut_from 0 (at + x) (line + length (l ∷ ls)) ys in
    cut_one l ls ys at line (ap (λ (j : Kind). lines_more j (ls ++ ys)) e ∙ takes)
    ∙ ap (λ (j : Kind). piece at x line j ∷ behind) e
    ∙ sym (with_other (piece at x line k) behind apart)

-- the last piece of some lines, and the lines behind it
last_meets : (k : Kind) (at line : ℕ) (l : List ℕ) (ls ys : List (List ℕ)) → kind_of l ≡ k → lines_more k ls ≡ length ls → is_block k ≡ false → prefix_len is_indented ys ≡ 0
    → cut_from 0 at line (l ∷ (ls ++ ys)) ≡ with_piece (piece at (length (concat (l ∷ ls))) line k) (cut_from 0 (at + length (concat (l ∷ ls))) (line + length (l ∷ ls)) ys)
unfolding GapMeets
last_meets kinds.Gap at line l ls ys e whole b none = gap_meets at line l ls ys e (sym (length-prefix_len is_remark ls) ∙ whole)
last_meets kinds.Block at line l ls ys e whole b none = absurd (false≢true (sym b))
last_meets kinds.Entry at line l ls ys e whole b none = closed_meets kinds.Entry at line l ls ys e (run_on ls ys whole none) refl
last_meets kinds.Head at line l ls ys e whole b none = closed_meets kinds.Head at line l ls ys e (run_on ls ys whole none) refl
last_meets kinds.Stray at line l ls ys e whole b none = closed_meets kinds.Stray at line l ls ys e (run_on ls ys whole none) refl

whole_of : (a b : ℕ) → b ≤ a → a ≤ b → a ≡ b
whole_of a b h k = omega (arith, h, k)

-- a piece that ends before the end of some lines
inside_meets : (at line : ℕ) (l : List ℕ) (xs ys : List (List ℕ)) → lines_more (kind_of l) xs < length xs → prefix_len is_indented ys ≡ 0
    → cut_from (lines_more (kind_of l) xs) (at + length l) (line + 1) (xs ++ ys) ≡ meeting (cut_from (lines_more (kind_of l) xs) (at + length l) (line + 1) xs) (cut_from 0 (at + length l + length (concat xs)) (line + 1 + length xs) ys)
    → cut_from 0 at line (l ∷ (xs ++ ys)) ≡ meeting (cut_from 0 at line (l ∷ xs)) (cut_from 0 (at + length (concat (l ∷ xs))) (line + length (l ∷ xs)) ys)
inside_meets at line l xs ys less none again =
    let k = kind_of l in
    let n = lines_more k xs in
    let rest = cut_from n (at + length l) (line + 1) xs in
    let one = piece at (length l + length (concat (take n xs))) line k in
    let behind = cut_from 0 (at + length (concat (l ∷ xs))) (line + length (l ∷ xs)) ys in
    let there : lines_more k (xs ++ []) ≡ n = ap (lines_more k) (append-nil xs) in
    let stays : lines_more k (xs ++ ys) ≡ n = more_inside k xs [] ys (omega (arith, less, there)) ∙ there in
    let some : 0 < length rest = some_more rest (λ e. no_less n (length xs) less (cut_none n (at + length l) (line + 1) xs e)) in
    ap (λ (j : ℕ). piece at (length l + length (concat (take j (xs ++ ys)))) line k ∷ cut_from j (at + length l) (line + 1) (xs ++ ys)) stays
    ∙ ap (λ (ks : List (List ℕ)). piece at (length l + length (concat ks)) line k ∷ cut_from n (at + length l) (line + 1) (xs ++ ys)) (take-append-le n xs ys (more_bound k xs))
    ∙ ap (λ (ps : List Piece). one ∷ ps) (again ∙ (λ i. meeting rest (cut_from 0 (bytes_more at l xs i) (numbers line (length xs) i) ys)))
    ∙ sym (meeting_more one rest behind some)

-- a piece that ends with them
end_meets : (at line : ℕ) (l : List ℕ) (xs ys : List (List ℕ)) → lines_more (kind_of l) xs ≡ length xs → NotLast is_block (cut_from 0 at line (l ∷ xs)) → prefix_len is_indented ys ≡ 0
    → cut_from 0 at line (l ∷ (xs ++ ys)) ≡ meeting (cut_from 0 at line (l ∷ xs)) (cut_from 0 (at + length (concat (l ∷ xs))) (line + length (l ∷ xs)) ys)
end_meets at line l xs ys whole last none =
    let k = kind_of l in
    let behind = cut_from 0 (at + length (concat (l ∷ xs))) (line + length (l ∷ xs)) ys in
    let alone : cut_from 0 at line (l ∷ xs) ≡ piece at (length (concat (l ∷ xs))) line k ∷ [] =
    ap (λ (ks : List (List ℕ)). cut_from 0 at line (l ∷ ks)) (sym (append-nil xs)) ∙ cut_one l xs [] at line (ap (lines_more k) (append-nil xs) ∙ whole) in
    let open_end : NotLast is_block (piece at (length (concat (l ∷ xs))) line k ∷ []) = subst (NotLast is_block) alone last in
    last_meets k at line l xs ys refl whole open_end none
    ∙ sym (ap (λ (ps : List Piece). meeting ps behind) alone)

-- Lines behind others, of which the last piece is no block, and which aren't indented.
cut_meets : (taken at line : ℕ) (xs ys : List (List ℕ)) → taken ≤ length xs → NotLast is_block (cut_from taken at line xs) → prefix_len is_indented ys ≡ 0
    → cut_from taken at line (xs ++ ys) ≡ meeting (cut_from taken at line xs) (cut_from 0 (at + length (concat xs)) (line + length xs) ys)
cut_meets zero at line [] ys few last none = λ i. cut_from 0 (same at i) (same line i) ys
cut_meets (suc taken) at line [] ys few last none = absurd (omega arith)
cut_meets (suc taken) at line (l ∷ xs) ys few last none =
    cut_meets taken (at + length l) (line + 1) xs ys (omega arith) last none
    ∙ (λ i. meeting (cut_from taken (at + length l) (line + 1) xs) (cut_from 0 (bytes_more at l xs i) (numbers line (length xs) i) ys))
cut_meets zero at line (l ∷ xs) ys few last none =
    elim (cases_lt (lines_more (kind_of l) xs) (length xs)) [
      | inl less ↦ inside_meets at line l xs ys less none
          (cut_meets (lines_more (kind_of l) xs) (at + length l) (line + 1) xs ys (more_bound (kind_of l) xs) (not_rest is_block (piece at (length l + length (concat (take (lines_more (kind_of l) xs) xs))) line (kind_of l)) (cut_from (lines_more (kind_of l) xs) (at + length l) (line + 1) xs) last) none)
      | inr all ↦ end_meets at line l xs ys (whole_of (lines_more (kind_of l) xs) (length xs) all (more_bound (kind_of l) xs)) last none
    ]

-- ---- the text

-- lines that begin further on are cut into the same pieces further on
cut_further : (a b taken at line : ℕ) (ls : List (List ℕ)) → cut_from taken (a + at) (b + line) ls ≡ map (shifted a b) (cut_from taken at line ls)
cut_further a b taken at line [] = refl
cut_further a b (suc taken) at line (l ∷ ls) =
    (λ i. cut_from taken (sym (assoc a at (length l)) i) (sym (assoc b line 1) i) ls) ∙ cut_further a b taken (at + length l) (line + 1) ls
cut_further a b zero at line (l ∷ ls) =
    let k = kind_of l in
    let n = lines_more k ls in
    ap (λ (ps : List Piece). piece (a + at) (length l + length (concat (take n ls))) (b + line) k ∷ ps)
    ((λ i. cut_from n (sym (assoc a at (length l)) i) (sym (assoc b line 1) i) ls) ∙ cut_further a b n (at + length l) (line + 1) ls)

one_less : (a b : ℕ) → a ≡ 1 + b → a - 1 + 1 ≡ a
one_less a b e = omega (arith, e)

none_more : (a : ℕ) → a ≡ a + 0
none_more a = omega arith

-- the kind of the piece before a number is not one
not_last : (t : Kind → Bool) (n : ℕ) (ps : List Piece) → n ≤ length ps → ((p : Piece) → kind_before n ps ≡ Some p.kind → t p.kind ≡ false) → NotLast t (take n ps)
not_last t zero ps h f = tt
not_last t (suc n) [] h f = absurd (omega arith)
not_last t (suc zero) (p ∷ ps) h f = f p refl
not_last t (suc (suc n)) (p ∷ []) h f = absurd (omega arith)
not_last t (suc (suc n)) (p ∷ q ∷ ps) h f = not_last t (suc n) (q ∷ ps) (omega (arith, h)) f

-- pieces whose last one is no gap stand before any others
meeting_apart : (ps qs : List Piece) → NotLast is_gap ps → meeting ps qs ≡ ps ++ qs
meeting_apart [] qs h = refl
meeting_apart (p ∷ []) qs h = with_other p qs h
meeting_apart (p ∷ q ∷ ps) qs h = ap (λ (rs : List Piece). p ∷ rs) (meeting_apart (q ∷ ps) qs h)

kind_same : (k j : Kind) → (let o : Option Kind = Some k in o) ≡ Some j → j ≡ k
kind_same k j h = cc

none_some : (k : Kind) → (let o : Option Kind = None in o) ≡ Some k → ⊥
none_some k h = cc

-- nothing goes on with no piece
nothing_stops : (before : Option Kind) → Stops before []
nothing_stops None = tt
nothing_stops (Some kinds.Block) = tt
nothing_stops (Some kinds.Gap) = refl
nothing_stops (Some kinds.Entry) = refl
nothing_stops (Some kinds.Head) = refl
nothing_stops (Some kinds.Stray) = refl

-- the pieces before an entry are those of the lines before it
pub front_pieces : (text : List ℕ) (n : ℕ) (p : Piece) (c : Found text n p) → cut_from 0 0 1 c.pre ≡ take n (items_of text)
front_pieces text n p c =
    ap (cut_from 0 0 1) (sym (append-nil c.pre)) ∙ c.front [] (nothing_stops (kind_before n (items_of text))) ∙ append-nil (take n (items_of text))

module _ (text : List ℕ) (n : ℕ) (p : Piece) (c : Found text n p) (zs : List (List ℕ)) (none : prefix_len is_indented zs ≡ 0) where
  -- the piece before it is no block
  by_lines : ((q : Piece) → kind_before n (items_of text) ≡ Some q.kind → is_block q.kind ≡ false) → cut_from 0 0 1 (c.pre ++ zs) ≡ meeting (take n (items_of text)) (cut_from 0 p.at p.line zs)
  by_lines f =
      let few = c.few in
      let own = front_pieces text n p c in
      let last : NotLast is_block (cut_from 0 0 1 c.pre) = subst (NotLast is_block) (sym own) (not_last is_block n (items_of text) (omega (arith, few)) f) in
      let at : 0 + length (concat c.pre) ≡ p.at = omega (arith, c.at_is) in
      let line : 1 + length c.pre ≡ p.line = sym c.line_is in
      cut_meets 0 0 1 c.pre zs (omega arith) last none
      ∙ (λ i. meeting (own i) (cut_from 0 (at i) (line i) zs))

  -- the piece before it, if there is one, is no gap and doesn't go on
  by_front : Stops (kind_before n (items_of text)) zs → ((q : Piece) → kind_before n (items_of text) ≡ Some q.kind → is_gap q.kind ≡ false) → cut_from 0 0 1 (c.pre ++ zs) ≡ meeting (take n (items_of text)) (cut_from 0 p.at p.line zs)
  by_front s f =
      let few = c.few in
      c.front zs s ∙ sym (meeting_apart (take n (items_of text)) (cut_from 0 p.at p.line zs) (not_last is_gap n (items_of text) (omega (arith, few)) f))

  by_kind : (k : Kind) → kind_before n (items_of text) ≡ Some k → cut_from 0 0 1 (c.pre ++ zs) ≡ meeting (take n (items_of text)) (cut_from 0 p.at p.line zs)
  by_kind kinds.Block e =
      by_front (subst (λ (o : Option Kind). Stops o zs) (sym e) tt) (λ q f. ap is_gap (kind_same kinds.Block q.kind (sym e ∙ f)))
  by_kind kinds.Gap e = by_lines (λ q f. ap is_block (kind_same kinds.Gap q.kind (sym e ∙ f)))
  by_kind kinds.Entry e = by_lines (λ q f. ap is_block (kind_same kinds.Entry q.kind (sym e ∙ f)))
  by_kind kinds.Head e = by_lines (λ q f. ap is_block (kind_same kinds.Head q.kind (sym e ∙ f)))
  by_kind kinds.Stray e = by_lines (λ q f. ap is_block (kind_same kinds.Stray q.kind (sym e ∙ f)))

  by_before : (o : Option Kind) → kind_before n (items_of text) ≡ o → cut_from 0 0 1 (c.pre ++ zs) ≡ meeting (take n (items_of text)) (cut_from 0 p.at p.line zs)
  by_before None e =
      by_front (subst (λ (o : Option Kind). Stops o zs) (sym e) tt) (λ q f. absurd (none_some q.kind (sym e ∙ f)))
  by_before (Some k) e = by_kind k e

  -- any lines that aren't indented, behind those before an entry
  front_meets : cut_from 0 0 1 (c.pre ++ zs) ≡ meeting (take n (items_of text)) (cut_from 0 p.at p.line zs)
  front_meets = by_before (kind_before n (items_of text)) refl

none_indented_both : (xs ys : List (List ℕ)) → prefix_len is_indented xs ≡ 0 → prefix_len is_indented ys ≡ 0 → prefix_len is_indented (xs ++ ys) ≡ 0
none_indented_both [] ys h k = k
none_indented_both (x ∷ xs) ys h k = by (is_indented x) h
  where
    by : (t : Bool) → cond t (1 + prefix_len is_indented xs) 0 ≡ 0 → cond t (1 + prefix_len is_indented (xs ++ ys)) 0 ≡ 0
    by true h = absurd (omega (arith, h))
    by false h = refl

-- entries and gaps have no block
kind_no_block : (k : Kind) → is_entry_or_gap k ≡ true → is_block k ≡ false
kind_no_block kinds.Entry h = refl
kind_no_block kinds.Gap h = refl
kind_no_block kinds.Head h = refl
kind_no_block kinds.Stray h = refl
kind_no_block kinds.Block h = absurd (false≢true h)

none_block : (at line : ℕ) (ps : List Piece) → AllByRecursion (λ (q : Piece). is_entry_or_gap q.kind ≡ true) ps → NotLast is_block (map (shifted at line) ps)
none_block at line [] all = tt
none_block at line (p ∷ []) all = kind_no_block p.kind all.0
none_block at line (p ∷ q ∷ ps) all = none_block at line (q ∷ ps) all.1

ends_of : (bytes : List ℕ) → is_ended bytes ≡ true → EndsLine bytes
ends_of [] h = tt
ends_of (b ∷ bs) h = ends_with_line (b ∷ bs) h

module _ (text : List ℕ) (n : ℕ) (p : Piece) (c : Found text n p) (bytes : List ℕ) (entries : AreEntries bytes) where
  pub lines_both : lines_of (replaced text p bytes) ≡ c.pre ++ (lines_of bytes ++ c.post)
  lines_both =
      front_now text n p c bytes (lines_of bytes ++ c.post)
      (lines_front bytes (concat c.post) (ends_of bytes entries.ends) ∙ ap (λ (ls : List (List ℕ)). lines_of bytes ++ ls) (parted text n p c).post_lines)

  pub own_pieces : cut_from 0 p.at p.line (lines_of bytes) ≡ map (shifted p.at (p.line - 1)) (items_of bytes)
  own_pieces =
      let line_is = c.line_is in
      (λ i. cut_from 0 (none_more p.at i) (sym (one_less p.line (length c.pre) line_is) i) (lines_of bytes)) ∙ cut_further p.at (p.line - 1) 0 0 1 (lines_of bytes)

  -- the pieces of the bytes and those behind them
  pub inner_is : cut_from 0 p.at p.line (lines_of bytes ++ c.post) ≡ meeting (map (shifted p.at (p.line - 1)) (items_of bytes)) (map (moved_piece (offset_of text p bytes)) (rest text n p c))
  inner_is =
      let last = subst (NotLast is_block) (sym own_pieces) (none_block p.at (p.line - 1) (items_of bytes) entries.kinds) in
      cut_meets 0 p.at p.line (lines_of bytes) c.post (omega arith) last (none_indented text n p c)
      ∙ (λ i. meeting (own_pieces i) (rest_moved text n p c bytes (length (concat (lines_of bytes))) (length (lines_of bytes)) (sym (ap length (concat_lines bytes))) refl i))

  pub all_meet : items_of (replaced text p bytes) ≡ meeting (take n (items_of text)) (meeting (map (shifted p.at (p.line - 1)) (items_of bytes)) (map (moved_piece (offset_of text p bytes)) (rest text n p c)))
  all_meet =
      ap (cut_from 0 0 1) lines_both
      ∙ front_meets text n p c (lines_of bytes ++ c.post) (none_indented_both (lines_of bytes) c.post entries.first (none_indented text n p c))
      ∙ ap (meeting (take n (items_of text))) inner_is

  meets : items_of (replaced text p bytes) ≡ met_pieces text n p bytes
  meets =
      all_meet
      ∙ ap (λ (ps : List Piece). meeting (take n (items_of text)) (meeting (map (shifted p.at (p.line - 1)) (items_of bytes)) (map (moved_piece (offset_of text p bytes)) ps))) (sym (rest_is text n p c))

pub meets_is : (text bytes : List ℕ) (n : ℕ) (p : Piece) → IsEntryOf text n p → AreEntries bytes → items_of (replaced text p bytes) ≡ met_pieces text n p bytes
meets_is text bytes n p of entries = meets text n p (found text n p of) bytes entries
