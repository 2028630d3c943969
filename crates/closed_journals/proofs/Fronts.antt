-- A text with a line's end behind it, and then the end of a comment block, reads as the text.
use Rattle.std.proofs.Common.{ℕ, suc, ◌≡◌, ◌+◌, ◌-◌, ◌<◌, ◌≤◌, inl, inr, ◌⊎◌, Bool, true, false, cond, ◌==◌, ◌&&◌, ◌||◌, not, codes, List, [], ◌∷◌, ◌++◌, length, take, drop, map, Option, Some, Result, Ok, Err, refl, sym, ap, subst, ◌∙◌, arith, append_assoc, append-nil, length-append}
use Rattle.std.specs.Prelude.{nat_lt, slice_index}
use Rattle.std.specs.List.{concat, list_any, prefix_len, take_while, AllByRecursion}
use Rattle.std.specs.Str.{is_utf8}
use Rattle.std.proofs.Math.Seq.{take-append_seam, take-length}
use Rattle.std.proofs.lemmas.Bool.{cases_lt, false≢true}
use Rattle.std.proofs.lemmas.Grind.{flat_map-append}
use Rattle.std.proofs.lemmas.List.Folds.{length-prefix_len}
use Rattle.hl_base.specs.Items.{closes_block, cut_from, is_indented, is_remark, items_of, kind_of, lines_more, lines_to_close}
use Rattle.hl_base.specs.Lines.{first_line, lines_of, onto}
use Rattle.hl_base.specs.declared.items.Kind.{Kind}
use Rattle.hl_base.specs.declared.items.Kind.TheVariants as kinds
use Rattle.hl_base.specs.declared.items.Piece.{Piece}
use Rattle.hl_base.proofs.LineLemmas.{lines_split}
use Rattle.book.specs.Postings.{txn_in, txns_of}
use Rattle.book.specs.declared.fault.Cause.TheVariants as cause
use Rattle.book.specs.declared.fault.Fault.{Fault}
use Rattle.book.specs.declared.item.Item.{Item}
use Rattle.book.specs.declared.item.Item.TheVariants as item
use Rattle.book.specs.declared.item.Placed.{Placed}
use Rattle.entry_reader.specs.Causes.{fault_at, ◌>>=◌}
use Rattle.entry_reader.specs.Contexts.{Context, context_of}
use Rattle.entry_reader.specs.Entries.{entry_of}
use Rattle.entry_reader.specs.Lines.{content_of, contents_of}
use Rattle.entry_reader.proofs.Texts.{empty_utf8}
use Rattle.directive_reader.specs.Directives.{head_item}
use Rattle.journal_reader.specs.Items.{broken_line, items_in, reading, reading_from, said_by}
use Rattle.live_journal.specs.Edits.{block_end, ends_line, has_open_block, is_block, last_piece, line_end}
use Rattle.written_logs.proofs.Bytes.{utf8_append, utf8_ascii}
use Rattle.closed_journals.proofs.Blocks.{all_taken, ends_with_line, last_more, open_block_is, same_head, same_tail, some_bytes, split_of}
use Rattle.closed_journals.proofs.Cuts.{Begins, EndsLine, close_front, cut_front, gap, gap_cut, lines_front, open_in, skip}
use Rattle.closed_journals.proofs.Grown.{AreAlike, IsAlike, Lacks, alike, alike_closes, alike_ended, alike_grown, alike_indents, alike_length, alike_remarks, alike_to_close, all_alike, contents_grown, ends_behind, ends_ended, grown, lacks_behind, lines_grown}
use Rattle.closed_journals.proofs.Lasts.{Parts, parts}
use Rattle.closed_journals.proofs.Pieces.{Ends, Read, before_more, bound, bytes_at, concat_lines, front_bytes, items_at, none_left, not_long, ok_same, one_fails, one_read, placed_as, read_front, same_context, too_long, within_cut}

-- ---- the lines of two parts of a text

by_split : (b : ℕ) (bs x w : List ℕ) (ls : List (List ℕ)) → 0 < length ls → ((y : List ℕ) (ys : List (List ℕ)) → lines_of bs ≡ y ∷ ys → 0 < length ys → lines_of (y ++ w) ≡ y ∷ lines_of w)
    → (t : Bool) → (b == 10) ≡ t → (whole : List (List ℕ)) → lines_of bs ≡ whole → cond t ((b ∷ []) ∷ whole) (onto b whole) ≡ x ∷ ls → lines_of (x ++ w) ≡ x ∷ lines_of w
by_split b bs x w ls some next true e whole f k =
    let same = same_head (b ∷ []) x whole ls k in
    subst (λ (y : List ℕ). lines_of (y ++ w) ≡ y ∷ lines_of w) same (ap (λ (t : Bool). cond t ((b ∷ []) ∷ lines_of w) (onto b (lines_of w))) e)
by_split b bs x w ls some next false e [] f k = absurd (let none : [] ≡ ls = same_tail (b ∷ []) x [] ls k in let no : 0 ≡ length ls = ap length none in omega (arith, no, some))
by_split b bs x w ls some next false e (y ∷ ys) f k =
    let same = same_head (b ∷ y) x ys ls k in
    let rest = same_tail (b ∷ y) x ys ls k in
    let more = next y ys f (omega (arith, some, ap length rest)) in
    subst (λ (z : List ℕ). lines_of (z ++ w) ≡ z ∷ lines_of w) same
    (ap (λ (t : Bool). cond t ((b ∷ []) ∷ lines_of (y ++ w)) (onto b (lines_of (y ++ w)))) e ∙ ap (onto b) more)

split_more : (text x w : List ℕ) (ls : List (List ℕ)) → lines_of text ≡ x ∷ ls → 0 < length ls → lines_of (x ++ w) ≡ x ∷ lines_of w
split_more [] x w ls h some = absurd (let never : ⊥ = cc in never)
split_more (b ∷ bs) x w ls h some = by_split b bs x w ls some (λ y ys f s. split_more bs y w ys f s) (b == 10) refl (lines_of bs) refl h

pub lines_before : (xs ys : List (List ℕ)) (text w : List ℕ) → lines_of text ≡ xs ++ ys → 0 < length ys → lines_of (concat xs ++ w) ≡ xs ++ lines_of w
lines_before [] ys text w h some = refl
lines_before (x ∷ xs) ys text w h some =
    let split = split_of text x (xs ++ ys) h in
    ap lines_of (append_assoc x (concat xs) w)
    ∙ split_more text x (concat xs ++ w) (xs ++ ys) h (omega (arith, some, length-append xs ys))
    ∙ ap (λ (ls : List (List ℕ)). x ∷ ls) (lines_before xs ys split.rest w split.lines some)

pub lines_behind : (xs ys : List (List ℕ)) (text : List ℕ) → lines_of text ≡ xs ++ ys → lines_of (concat ys) ≡ ys
lines_behind [] ys text h = ap (λ (ls : List (List ℕ)). lines_of (concat ls)) (sym h) ∙ ap lines_of (concat_lines text) ∙ h
lines_behind (x ∷ xs) ys text h = let split = split_of text x (xs ++ ys) h in lines_behind xs ys split.rest split.lines

concat_parts : (xs ys : List (List ℕ)) → concat (xs ++ ys) ≡ concat xs ++ concat ys
concat_parts [] ys = refl
concat_parts (x ∷ xs) ys = ap (λ (zs : List ℕ). x ++ zs) (concat_parts xs ys) ∙ sym (append_assoc x (concat xs) (concat ys))

-- ---- the line's end that a text lacks

last_lacks : (b : ℕ) (bs : List ℕ) → ends_line (b ∷ bs) ≡ false → Lacks (b ∷ bs)
last_lacks b [] h = h
last_lacks b (c ∷ cs) h =
    let place : length (b ∷ c ∷ cs) - 1 ≡ suc (length (c ∷ cs) - 1) = omega arith in
    last_lacks c cs (sym (ap (λ (k : ℕ). slice_index (b ∷ c ∷ cs) k == 10) place) ∙ h)

pub data EndOf (text : List ℕ) : Type 0 where
  does_end : line_end text ≡ [] → EndsLine text → EndOf text
  does_lack : line_end text ≡ gap → Lacks text → EndOf text

pub end_of : (b : ℕ) (bs : List ℕ) → EndOf (b ∷ bs)
end_of b bs = by (ends_line (b ∷ bs)) refl
  where
    is : (t : Bool) → ends_line (b ∷ bs) ≡ t → line_end (b ∷ bs) ≡ cond {A = List ℕ} t [] (10 ∷ [])
    is t h = let some = some_bytes b bs in λ i. cond {A = List ℕ} ((some i) || (h i)) [] (10 ∷ [])

    by : (t : Bool) → ends_line (b ∷ bs) ≡ t → EndOf (b ∷ bs)
    by true h = does_end (is true h) (ends_with_line (b ∷ bs) (is true h))
    by false h = does_lack (is false h) (last_lacks b bs h)

-- What the lines of a text are with a line's end behind it: its first line, and the others.
record Grows (l : List ℕ) (rest : List (List ℕ)) (text : List ℕ) : Type 0 where
  first : List ℕ
  others : List (List ℕ)
  lines : lines_of text ≡ first ∷ others
  like : IsAlike l first
  likes : AreAlike rest others
  ended : EndsLine text

grows_lacking : (text l : List ℕ) (rest : List (List ℕ)) → lines_of text ≡ l ∷ rest → Lacks text → Grows l rest (text ++ gap)
grows_lacking [] l rest e h = absurd (let never : ⊥ = cc in never)
grows_lacking (c ∷ cs) l [] e h = record { first = l ++ gap; others = []; lines = lines_grown c cs h ∙ ap grown e; like = alike_ended l; likes = tt; ended = ends_ended (c ∷ cs) }
grows_lacking (c ∷ cs) l (m ∷ ms) e h = record { first = l; others = grown (m ∷ ms); lines = lines_grown c cs h ∙ ap grown e; like = alike l; likes = alike_grown (m ∷ ms); ended = ends_ended (c ∷ cs) }

grows_not : (text l : List ℕ) (rest : List (List ℕ)) → lines_of text ≡ l ∷ rest → EndsLine text → Grows l rest text
grows_not text l rest e h = record { first = l; others = rest; lines = e; like = alike l; likes = all_alike rest; ended = h }

-- ---- how far the last piece goes

run_on : (p : List ℕ → Bool) (ls more : List (List ℕ)) → prefix_len p ls ≡ length ls → prefix_len p (ls ++ more) ≡ length ls + prefix_len p more
run_on p [] more h = omega arith
run_on p (l ∷ ls) more h = by (p l) h (run_on p ls more)
  where
    by : (t : Bool) → cond t (1 + prefix_len p ls) 0 ≡ suc (length ls) → (prefix_len p ls ≡ length ls → prefix_len p (ls ++ more) ≡ length ls + prefix_len p more) → cond t (1 + prefix_len p (ls ++ more)) 0 ≡ suc (length ls) + prefix_len p more
    by true k f = let r = f (omega (arith, k)) in omega (arith, r)
    by false k f = absurd (omega (arith, k))

runs_on : (p : List ℕ → Bool) (ls more : List (List ℕ)) → prefix_len p ls ≡ length ls → length (take_while p (ls ++ more)) ≡ length ls + prefix_len p more
runs_on p ls more h = length-prefix_len p (ls ++ more) ∙ run_on p ls more h

-- the line that ends a block
abbrev pub end_line : List ℕ
end_line = codes "end comment" ++ (10 ∷ [])

close_on : (ls : List (List ℕ)) → list_any closes_block ls ≡ false → lines_to_close (ls ++ end_line ∷ []) ≡ length ls + 1
close_on [] h = refl
close_on (l ∷ ls) h = by (closes_block l) h (close_on ls)
  where
    by : (t : Bool) → (t || list_any closes_block ls) ≡ false → (list_any closes_block ls ≡ false → lines_to_close (ls ++ end_line ∷ []) ≡ length ls + 1) → cond t 1 (lines_to_close (ls ++ end_line ∷ []) + 1) ≡ suc (length ls) + 1
    by true k f = absurd (false≢true (sym k))
    by false k f = let r = f k in omega (arith, r)

any_on : (ls : List (List ℕ)) (l : List ℕ) → closes_block l ≡ true → list_any closes_block (ls ++ l ∷ []) ≡ true
any_on [] l h = ap (λ (t : Bool). t || false) h
any_on (x ∷ xs) l h = by (closes_block x) (any_on xs l h)
  where
    by : (t : Bool) → list_any closes_block (xs ++ l ∷ []) ≡ true → (t || list_any closes_block (xs ++ l ∷ [])) ≡ true
    by true r = refl
    by false r = r

any_front : (ls more : List (List ℕ)) → list_any closes_block ls ≡ true → list_any closes_block (ls ++ more) ≡ true
any_front [] more h = absurd (false≢true h)
any_front (x ∷ xs) more h = by (closes_block x) h (any_front xs more)
  where
    by : (t : Bool) → (t || list_any closes_block xs) ≡ true → (list_any closes_block xs ≡ true → list_any closes_block (xs ++ more) ≡ true) → (t || list_any closes_block (xs ++ more)) ≡ true
    by true k f = refl
    by false k f = f k

pub open_skip : (ls more : List (List ℕ)) → open_in (length ls) (ls ++ more) ≡ open_in 0 more
open_skip [] more = refl
open_skip (l ∷ ls) more = open_skip ls more

abbrev piece : ℕ → ℕ → ℕ → Kind → Piece
piece at len line kind = record { at = at; len = len; line = line; kind = kind }

-- a piece of all lines
cut_whole : (at line : ℕ) (l : List ℕ) (ls : List (List ℕ)) → lines_more (kind_of l) ls ≡ length ls → cut_from 0 at line (l ∷ ls) ≡ piece at (length (concat (l ∷ ls))) line (kind_of l) ∷ []
cut_whole at line l ls h =
    ap (λ (j : ℕ). piece at (length l + length (concat (take j ls))) line (kind_of l) ∷ cut_from j (at + length l) (line + 1) ls) h
    ∙ ap (λ (xs : List (List ℕ)). piece at (length l + length (concat xs)) line (kind_of l) ∷ cut_from (length ls) (at + length l) (line + 1) ls) (take-length ls)
    ∙ ap (λ (ps : List Piece). piece at (length l + length (concat ls)) line (kind_of l) ∷ ps) (all_taken (at + length l) (line + 1) ls)
    ∙ ap (λ (n : ℕ). piece at n line (kind_of l) ∷ []) (sym (length-append l (concat ls)))

-- a piece of all lines, and an empty line
cut_gapped : (at line : ℕ) (l : List ℕ) (ls : List (List ℕ)) → lines_more (kind_of l) (ls ++ gap ∷ []) ≡ length ls
    → cut_from 0 at line (l ∷ (ls ++ gap ∷ [])) ≡ piece at (length (concat (l ∷ ls))) line (kind_of l) ∷ piece (at + length (concat (l ∷ ls))) 1 (line + 1 + length ls) kinds.Gap ∷ []
cut_gapped at line l ls h =
    let all = ls ++ gap ∷ [] in
    let size : length (concat (l ∷ ls)) ≡ length l + length (concat ls) = length-append l (concat ls) in
    let after = at + length (concat (l ∷ ls)) in
    ap (λ (j : ℕ). piece at (length l + length (concat (take j all))) line (kind_of l) ∷ cut_from j (at + length l) (line + 1) all) h
    ∙ ap (λ (xs : List (List ℕ)). piece at (length l + length (concat xs)) line (kind_of l) ∷ cut_from (length ls) (at + length l) (line + 1) all) (take-append_seam ls (gap ∷ []))
    ∙ ap (λ (n : ℕ). piece at n line (kind_of l) ∷ cut_from (length ls) (at + length l) (line + 1) all) (sym size)
    ∙ ap (λ (ps : List Piece). piece at (length (concat (l ∷ ls))) line (kind_of l) ∷ ps)
    (skip ls (gap ∷ []) (at + length l) (line + 1) after (line + 1 + length ls) (omega (arith, size)) refl
    ∙ gap_cut after (line + 1 + length ls) [] refl)

-- ---- how a piece reads

reading_utf8 : (context : Context) (line : ℕ) (bytes : List ℕ) (i : Item) → reading context line bytes ≡ Ok i → is_utf8 bytes ≡ true
unfolding reading
reading_utf8 context line bytes i h = by (is_utf8 bytes) h
  where
    by : (t : Bool) → cond {A = Result Item Fault} t (said_by (kind_of (first_line bytes)) context line bytes) (Err (fault_at (broken_line line bytes) cause.Encoding)) ≡ Ok i → t ≡ true
    by true k = refl
    by false k = absurd (let never : ⊥ = cc in never)

reading_is : (context : Context) (line : ℕ) (bytes : List ℕ) → is_utf8 bytes ≡ true → reading context line bytes ≡ said_by (kind_of (first_line bytes)) context line bytes
unfolding reading
reading_is context line bytes utf8 = ap (λ (t : Bool). cond {A = Result Item Fault} t (said_by (kind_of (first_line bytes)) context line bytes) (Err (fault_at (broken_line line bytes) cause.Encoding))) utf8

first_of : (text l : List ℕ) (ls : List (List ℕ)) → lines_of text ≡ l ∷ ls → first_line text ≡ l
first_of [] l ls h = absurd (let never : ⊥ = cc in never)
first_of (b ∷ bs) l ls h = same_head (first_line (b ∷ bs)) l (lines_of (drop (length (first_line (b ∷ bs))) (b ∷ bs))) ls (sym (lines_split (b ∷ bs) (omega arith)) ∙ h)

-- by the kind of its first line
reading_kind : (context : Context) (line : ℕ) (bytes l : List ℕ) (ls : List (List ℕ)) (k : Kind) → is_utf8 bytes ≡ true → lines_of bytes ≡ l ∷ ls → kind_of l ≡ k → reading context line bytes ≡ said_by k context line bytes
reading_kind context line bytes l ls k utf8 lines kind = reading_is context line bytes utf8 ∙ ap (λ (j : Kind). said_by j context line bytes) (ap kind_of (first_of bytes l ls lines) ∙ kind)

no_stray : (context : Context) (line : ℕ) (bytes : List ℕ) (i : Item) → said_by kinds.Stray context line bytes ≡ Ok i → ⊥
no_stray context line bytes i h = let never : ⊥ = cc in never

contents_ended : (b : ℕ) (bs : List ℕ) → Lacks (b ∷ bs) → contents_of ((b ∷ bs) ++ gap) ≡ contents_of (b ∷ bs)
contents_ended b bs h = ap (map content_of) (lines_grown b bs h) ∙ contents_grown (lines_of (b ∷ bs))

-- What the bytes of a piece say with a line's end: the same, or they are too long now.
data Goes (context : Context) (line : ℕ) (bytes more : List ℕ) (i : Item) : Type 0 where
  stays : reading context line (bytes ++ more) ≡ Ok i → Goes context line bytes more i
  over : length bytes ≡ 65536 → reading context line (bytes ++ more) ≡ Err (fault_at line cause.TooLong) → Goes context line bytes more i

limited : (bytes : List ℕ) (f : List ℕ → Result Item Fault) (line : ℕ) (i : Item) → cond {A = Result Item Fault} (nat_lt 65536 (length bytes)) (Err (fault_at line cause.TooLong)) (f bytes) ≡ Ok i → (length bytes ≤ 65536) × (f bytes ≡ Ok i)
limited bytes f line i h = by (nat_lt 65536 (length bytes)) refl h
  where
    within : nat_lt 65536 (length bytes) ≡ false → length bytes ≤ 65536
    within e = elim (cases_lt 65536 (length bytes)) [
      | inl less ↦ absurd (false≢true (sym e ∙ too_long (length bytes) less))
      | inr most ↦ most
    ]

    by : (t : Bool) → nat_lt 65536 (length bytes) ≡ t → cond {A = Result Item Fault} t (Err (fault_at line cause.TooLong)) (f bytes) ≡ Ok i → (length bytes ≤ 65536) × (f bytes ≡ Ok i)
    by true e k = absurd (let never : ⊥ = cc in never)
    by false e k = (within e, k)

goes_by : (context : Context) (line : ℕ) (bytes more : List ℕ) (f : List ℕ → Result Item Fault) (i : Item)
    → reading context line (bytes ++ more) ≡ cond {A = Result Item Fault} (nat_lt 65536 (length (bytes ++ more))) (Err (fault_at line cause.TooLong)) (f (bytes ++ more))
    → f (bytes ++ more) ≡ f bytes → length (bytes ++ more) ≤ length bytes + 1
    → cond {A = Result Item Fault} (nat_lt 65536 (length bytes)) (Err (fault_at line cause.TooLong)) (f bytes) ≡ Ok i → Goes context line bytes more i
goes_by context line bytes more f i is equal small h =
    let l = limited bytes f line i h in
    elim (cases_lt 65536 (length (bytes ++ more))) [
      | inl less ↦ over (omega (arith, l.0, less, small)) (is ∙ ap (λ (t : Bool). cond {A = Result Item Fault} t (Err (fault_at line cause.TooLong)) (f (bytes ++ more))) (too_long (length (bytes ++ more)) less))
      | inr most ↦ stays (is ∙ ap (λ (t : Bool). cond {A = Result Item Fault} t (Err (fault_at line cause.TooLong)) (f (bytes ++ more))) (not_long (length (bytes ++ more)) most) ∙ equal ∙ l.1)
    ]

-- ---- pieces, some of them after the others

record IsCut (year : Option ℕ) (before : List Item) (text : List ℕ) (ps qs : List Piece) (placed : List Placed) : Type 0 where
  front : List Placed
  back : List Placed
  is : placed ≡ front ++ back
  first : reading_from year before text ps ≡ Ok front
  second : reading_from year (before ++ items_at front) text qs ≡ Ok back

read_parts : (year : Option ℕ) (before : List Item) (text : List ℕ) (ps qs : List Piece) (placed : List Placed) → reading_from year before text (ps ++ qs) ≡ Ok placed → IsCut year before text ps qs placed
unfolding reading_from
read_parts year before text [] qs placed h = record { front = []; back = placed; is = refl; first = refl; second = ap (λ (b : List Item). reading_from year b text qs) (append-nil before) ∙ h }
read_parts year before text (p ∷ ps) qs placed h =
    let one = bound (reading (context_of year before) p.line (take p.len (drop p.at text))) (λ i. reading_from year (before ++ i ∷ []) text (ps ++ qs) >>= λ rest. Ok (placed_as p i ∷ rest)) placed h in
    let i = one.value in
    let two = bound (reading_from year (before ++ i ∷ []) text (ps ++ qs)) (λ rest. Ok (placed_as p i ∷ rest)) placed one.second in
    let all : placed_as p i ∷ two.value ≡ placed = ok_same (placed_as p i ∷ two.value) placed two.second in
    let r = read_parts year (before ++ i ∷ []) text ps qs two.value two.first in
    record {
      front = placed_as p i ∷ r.front;
      back = r.back;
      is = sym all ∙ ap (λ (l : List Placed). placed_as p i ∷ l) r.is;
      first =
          ap (λ (x : Result Item Fault). x >>= λ j. reading_from year (before ++ j ∷ []) text ps >>= λ rest. Ok (placed_as p j ∷ rest)) one.first
          ∙ ap (λ (x : Read). x >>= λ rest. Ok (placed_as p i ∷ rest)) r.first;
      second = ap (λ (b : List Item). reading_from year b text qs) (sym (append_assoc before (i ∷ []) (items_at r.front))) ∙ r.second;
    }

-- pieces of a front are read in it as in the whole
read_back : (year : Option ℕ) (before : List Item) (text more : List ℕ) (ps : List Piece) → AllByRecursion (Ends (length text)) ps → reading_from year before (text ++ more) ps ≡ reading_from year before text ps
unfolding reading_from
read_back year before text more [] within = refl
read_back year before text more (p ∷ ps) within =
    ap (λ (bytes : List ℕ). reading (context_of year before) p.line bytes >>= λ j. reading_from year (before ++ j ∷ []) (text ++ more) ps >>= λ rest. Ok (placed_as p j ∷ rest)) (front_bytes text more p within.0)
    ∙ (λ i. reading (context_of year before) p.line (take p.len (drop p.at text)) >>= λ j. (read_back year (before ++ j ∷ []) text more ps within.1 i) >>= λ rest. Ok (placed_as p j ∷ rest))

record IsLast (year : Option ℕ) (before : List Item) (text : List ℕ) (p : Piece) (placed : List Placed) : Type 0 where
  said : Item
  read_as : reading (context_of year before) p.line (take p.len (drop p.at text)) ≡ Ok said
  is : placed_as p said ∷ [] ≡ placed

read_last : (year : Option ℕ) (before : List Item) (text : List ℕ) (p : Piece) (placed : List Placed) → reading_from year before text (p ∷ []) ≡ Ok placed → IsLast year before text p placed
unfolding reading_from
read_last year before text p placed h =
    let one = bound (reading (context_of year before) p.line (take p.len (drop p.at text))) (λ i. reading_from year (before ++ i ∷ []) text [] >>= λ rest. Ok (placed_as p i ∷ rest)) placed h in
    record { said = one.value; read_as = one.first; is = ok_same (placed_as p one.value ∷ []) placed one.second }

alone_read : (year : Option ℕ) (before : List Item) (all : List ℕ) (p : Piece) (i : Item) → reading (context_of year before) p.line (take p.len (drop p.at all)) ≡ Ok i → reading_from year before all (p ∷ []) ≡ Ok (placed_as p i ∷ [])
alone_read year before all p i is = one_read year before all p [] i is ∙ ap (λ (r : Read). r >>= λ rest. Ok (placed_as p i ∷ rest)) (none_left year (before ++ i ∷ []) all)

two_read : (year : Option ℕ) (before : List Item) (all : List ℕ) (p q : Piece) (i j : Item) → reading (context_of year before) p.line (take p.len (drop p.at all)) ≡ Ok i
    → reading (context_of year (before ++ i ∷ [])) q.line (take q.len (drop q.at all)) ≡ Ok j → reading_from year before all (p ∷ q ∷ []) ≡ Ok (placed_as p i ∷ placed_as q j ∷ [])
two_read year before all p q i j is js = one_read year before all p (q ∷ []) i is ∙ ap (λ (r : Read). r >>= λ rest. Ok (placed_as p i ∷ rest)) (alone_read year (before ++ i ∷ []) all q j js)

last_of : (ps : List Piece) (p : Piece) → last_piece (ps ++ p ∷ []) ≡ Some p
last_of [] p = refl
last_of (q ∷ []) p = last_more q p []
last_of (q ∷ r ∷ ps) p = last_more q r (ps ++ p ∷ []) ∙ last_of (r ∷ ps) p

items_parts : (xs ys : List Placed) → items_at (xs ++ ys) ≡ items_at xs ++ items_at ys
items_parts [] ys = refl
items_parts (x ∷ xs) ys = ap (λ (is : List Item). x.item ∷ is) (items_parts xs ys)

ends_more : (x : List ℕ) (y : ℕ) (ys : List ℕ) → EndsLine (y ∷ ys) → EndsLine (x ++ y ∷ ys)
ends_more [] y ys h = h
ends_more (a ∷ []) y ys h = h
ends_more (a ∷ c ∷ cs) y ys h = ends_more (c ∷ cs) y ys h

open_none : (ls : List (List ℕ)) → open_in (length ls) ls ≡ false
open_none [] = refl
open_none (l ∷ ls) = open_none ls

or_none : (a b : Bool) → b ≡ false → (a || b) ≡ a
or_none true b h = refl
or_none false b h = h

both_false : (a b : Bool) → a ≡ false → b ≡ false → (a || b) ≡ false
both_false a b h g = ap (λ (t : Bool). t || b) h ∙ g

-- ---- the text with its end

-- What a text that reads becomes there: it reads to the same transactions and directives; or its last piece is too long now.
pub data Ended (year : Option ℕ) (text front : List ℕ) (items : List Placed) : Type 0 where
  reads : (placed : List Placed) → items_in year front ≡ Ok placed → context_of year (items_at placed) ≡ context_of year (items_at items) → txns_of placed ≡ txns_of items → Ended year text front items
  long : (p : Piece) → last_piece (items_of text) ≡ Some p → p.len ≡ 65536 → line_end text ≡ gap
      → ((more : List ℕ) → Begins (lines_of more) → items_in year (front ++ more) ≡ Err (fault_at p.line cause.TooLong)) → Ended year text front items

pub record IsFront (year : Option ℕ) (text front : List ℕ) (items : List Placed) : Type 0 where
  pub ends : EndsLine front
  pub shut : open_in 0 (lines_of front) ≡ false
  pub ended : Ended year text front items

gap_reads : (context : Context) (line : ℕ) → reading context line gap ≡ Ok item.Gap
gap_reads context line = reading_kind context line gap gap [] kinds.Gap (utf8_ascii gap refl) refl refl

module _ (year : Option ℕ) (b : ℕ) (bs : List ℕ) (items : List Placed) (read : items_in year (b ∷ bs) ≡ Ok items) where
  abbrev text : List ℕ
  text = b ∷ bs

  found : Parts 0 (lines_of text)
  found = parts 0 (lines_of text) (omega (arith, ap length (lines_split text (omega arith))))

  abbrev fs : List (List ℕ)
  fs = found.front

  abbrev l : List ℕ
  l = found.first

  abbrev rest : List (List ℕ)
  rest = found.rest

  abbrev head : List ℕ
  head = concat fs

  abbrev bytes : List ℕ
  bytes = concat (l ∷ rest)

  abbrev ps : List Piece
  ps = cut_from 0 0 1 fs

  abbrev at : ℕ
  at = 0 + length head

  abbrev number : ℕ
  number = 1 + length fs

  abbrev last : Piece
  last = piece at (length bytes) number (kind_of l)

  text_is : text ≡ head ++ bytes
  text_is = sym (concat_lines text) ∙ ap concat found.is ∙ concat_parts fs (l ∷ rest)

  bytes_lines : lines_of bytes ≡ l ∷ rest
  bytes_lines = lines_behind fs (l ∷ rest) text found.is

  items_are : items_of text ≡ ps ++ last ∷ []
  items_are = ap (cut_from 0 0 1) found.is ∙ found.cut 0 1 l rest refl refl ∙ ap (λ (qs : List Piece). ps ++ qs) (cut_whole at number l rest found.whole)

  parted : IsCut year [] text ps (last ∷ []) items
  parted = read_parts year [] text ps (last ∷ []) items (ap (reading_from year [] text) (sym items_are) ∙ read)

  none_taken : (n : ℕ) → 0 ≤ n
  none_taken n = omega arith

  none_more : (n : ℕ) → 0 + n ≡ n
  none_more n = omega arith

  within : AllByRecursion (Ends (length head)) ps
  within = subst (λ (n : ℕ). AllByRecursion (Ends n) ps) (none_more (length head)) (within_cut 0 0 1 fs)

  front_read : reading_from year [] head ps ≡ Ok parted.front
  front_read = sym (read_back year [] head bytes ps within) ∙ ap (λ (t : List ℕ). reading_from year [] t ps) (sym text_is) ∙ parted.first

  abbrev c : Context
  c = context_of year (items_at parted.front)

  last_read : IsLast year (items_at parted.front) text last parted.back
  last_read = read_last year (items_at parted.front) text last parted.back parted.second

  abbrev i : Item
  i = last_read.said

  here : reading c number bytes ≡ Ok i
  here = ap (reading c number) (sym (bytes_at text head bytes [] at (length bytes) (text_is ∙ ap (λ (xs : List ℕ). head ++ xs) (sym (append-nil bytes))) (none_more (length head)) refl)) ∙ last_read.read_as

  utf8 : is_utf8 bytes ≡ true
  utf8 = reading_utf8 c number bytes i here

  items_is : items ≡ parted.front ++ placed_as last i ∷ []
  items_is = parted.is ∙ ap (λ (back : List Placed). parted.front ++ back) (sym last_read.is)

  same_txns : (p : Piece) → txns_of (parted.front ++ placed_as p i ∷ []) ≡ txns_of items
  same_txns p =
      flat_map-append (λ (placed : Placed). txn_in placed.item) parted.front (placed_as p i ∷ [])
      ∙ sym (flat_map-append (λ (placed : Placed). txn_in placed.item) parted.front (placed_as last i ∷ []))
      ∙ ap txns_of (sym items_is)

  gap_txns : (p q : Piece) → txns_of (parted.front ++ placed_as p i ∷ placed_as q item.Gap ∷ []) ≡ txns_of items
  gap_txns p q =
      flat_map-append (λ (placed : Placed). txn_in placed.item) parted.front (placed_as p i ∷ placed_as q item.Gap ∷ [])
      ∙ sym (flat_map-append (λ (placed : Placed). txn_in placed.item) parted.front (placed_as last i ∷ []))
      ∙ ap txns_of (sym items_is)

  then_i : context_of year (items_at parted.front ++ i ∷ []) ≡ context_of year (items_at items)
  then_i = ap (context_of year) (sym (items_parts parted.front (placed_as last i ∷ [])) ∙ ap items_at (sym items_is))

  same_end : (p : Piece) → context_of year (items_at (parted.front ++ placed_as p i ∷ [])) ≡ context_of year (items_at items)
  same_end p = ap (context_of year) (items_parts parted.front (placed_as p i ∷ [])) ∙ then_i

  gap_end : (p q : Piece) → context_of year (items_at (parted.front ++ placed_as p i ∷ placed_as q item.Gap ∷ [])) ≡ context_of year (items_at items)
  gap_end p q =
      ap (context_of year) (items_parts parted.front (placed_as p i ∷ placed_as q item.Gap ∷ []) ∙ sym (append_assoc (items_at parted.front) (i ∷ []) (item.Gap ∷ [])))
      ∙ same_context year (items_at parted.front ++ i ∷ []) item.Gap refl
      ∙ then_i

  -- ---- some bytes in the place of the last piece's

  module _ (x first : List ℕ) (others : List (List ℕ)) (lines : lines_of x ≡ first ∷ others) (ends_x : EndsLine x) (like : IsAlike l first) where
    x_is : concat (first ∷ others) ≡ x
    x_is = ap concat (sym lines) ∙ concat_lines x

    lines_with : (more : List ℕ) → lines_of (head ++ (x ++ more)) ≡ fs ++ first ∷ (others ++ lines_of more)
    lines_with more =
        lines_before fs (l ∷ rest) text (x ++ more) found.is (omega arith)
        ∙ ap (λ (ls : List (List ℕ)). fs ++ ls) (lines_front x more ends_x ∙ ap (λ (ls : List (List ℕ)). ls ++ lines_of more) lines)

    cut_with : (more : List ℕ) → items_of (head ++ (x ++ more)) ≡ ps ++ cut_from 0 at number (first ∷ (others ++ lines_of more))
    cut_with more = ap (cut_from 0 0 1) (lines_with more) ∙ found.cut 0 1 first (others ++ lines_of more) like.remark like.indented

    open_with : (more : List ℕ) → open_in 0 (lines_of (head ++ (x ++ more))) ≡ open_in 0 (first ∷ (others ++ lines_of more))
    open_with more = ap (open_in 0) (lines_with more) ∙ found.leaves first (others ++ lines_of more) like.remark like.indented

    abbrev q : Piece
    q = piece at (length x) number (kind_of first)

    q_bytes : (more : List ℕ) → take (length x) (drop at (head ++ (x ++ more))) ≡ x
    q_bytes more = bytes_at (head ++ (x ++ more)) head x more at (length x) refl (none_more (length head)) refl

    front_ends : EndsLine (head ++ (x ++ gap))
    front_ends = subst EndsLine (append_assoc head x gap) (ends_ended (head ++ x))

    abbrev front : List ℕ
    front = head ++ (x ++ gap)

    abbrev g : Piece
    g = piece (at + length x) 1 (number + 1 + length others) kinds.Gap

    g_bytes : take 1 (drop (at + length x) front) ≡ gap
    g_bytes = bytes_at front (head ++ x) gap [] (at + length x) 1 (sym (append_assoc head x gap)) (omega (arith, length-append head x)) refl

    -- the empty line is a piece of its own
    apart : lines_more (kind_of first) (others ++ gap ∷ []) ≡ length others → (is_block (kind_of first) && not (list_any closes_block (others ++ gap ∷ []))) ≡ false
        → (reading c number x ≡ Ok i) ⊎ ((length bytes ≡ 65536) × ((line_end text ≡ gap) × (reading c number x ≡ Err (fault_at number cause.TooLong)))) → IsFront year text front items
    apart goes none outcome = record { ends = front_ends; shut = shut; ended = by outcome }
      where
        shut : open_in 0 (lines_of front) ≡ false
        shut =
            open_with gap
            ∙ both_false (is_block (kind_of first) && not (list_any closes_block (others ++ gap ∷ []))) (open_in (lines_more (kind_of first) (others ++ gap ∷ [])) (others ++ gap ∷ [])) none
            (ap (λ (j : ℕ). open_in j (others ++ gap ∷ [])) goes ∙ open_skip others (gap ∷ []))

        pieces : items_of front ≡ ps ++ q ∷ g ∷ []
        pieces =
            cut_with gap
            ∙ ap (λ (qs : List Piece). ps ++ qs)
            (cut_gapped at number first others goes
            ∙ ap (λ (n : ℕ). piece at n number (kind_of first) ∷ piece (at + n) 1 (number + 1 + length others) kinds.Gap ∷ []) (ap length x_is))

        by : (reading c number x ≡ Ok i) ⊎ ((length bytes ≡ 65536) × ((line_end text ≡ gap) × (reading c number x ≡ Err (fault_at number cause.TooLong)))) → Ended year text front items
        by (inl h) =
            reads (parted.front ++ placed_as q i ∷ placed_as g item.Gap ∷ [])
            (ap (reading_from year [] front) pieces
            ∙ read_front year [] head (x ++ gap) ps (q ∷ g ∷ []) parted.front within front_read
            ∙ ap (before_more parted.front)
            (two_read year (items_at parted.front) front q g i item.Gap (ap (reading c number) (q_bytes gap) ∙ h)
            (ap (reading (context_of year (items_at parted.front ++ i ∷ [])) (number + 1 + length others)) g_bytes ∙ gap_reads (context_of year (items_at parted.front ++ i ∷ [])) (number + 1 + length others))))
            (gap_end q g) (gap_txns q g)
        by (inr h) = long last (ap last_piece items_are ∙ last_of ps last) h.0 (h.1).0 fails
          where
            fails : (more : List ℕ) → Begins (lines_of more) → items_in year (front ++ more) ≡ Err (fault_at number cause.TooLong)
            fails more begins =
                let all = head ++ ((x ++ gap) ++ more) in
                let after = cut_from 0 (0 + length (concat (lines_of front))) (1 + length (lines_of front)) (lines_of more) in
                let cut : items_of (front ++ more) ≡ ps ++ (q ∷ g ∷ after) =
                ap (cut_from 0 0 1) (lines_front front more front_ends)
                ∙ cut_front 0 0 1 (lines_of front) (lines_of more) (none_taken (length (lines_of front))) shut begins
                ∙ ap (λ (qs : List Piece). qs ++ after) pieces
                ∙ append_assoc ps (q ∷ g ∷ []) after in
                ap (reading_from year [] (front ++ more)) cut
                ∙ ap (λ (t : List ℕ). reading_from year [] t (ps ++ (q ∷ g ∷ after))) (append_assoc head (x ++ gap) more)
                ∙ read_front year [] head ((x ++ gap) ++ more) ps (q ∷ g ∷ after) parted.front within front_read
                ∙ ap (before_more parted.front)
                (one_fails year (items_at parted.front) all q (g ∷ after) (fault_at number cause.TooLong)
                (ap (reading c number) (bytes_at all head x (gap ++ more) at (length x) (ap (λ (xs : List ℕ). head ++ xs) (append_assoc x gap more)) (none_more (length head)) refl) ∙ (h.1).1))

    abbrev w : Piece
    w = piece at (length (x ++ gap)) number (kind_of first)

    w_bytes : take (length (x ++ gap)) (drop at front) ≡ x ++ gap
    w_bytes = bytes_at front head (x ++ gap) [] at (length (x ++ gap)) (ap (λ (xs : List ℕ). head ++ xs) (sym (append-nil (x ++ gap)))) (none_more (length head)) refl

    all_is : concat (first ∷ (others ++ gap ∷ [])) ≡ x ++ gap
    all_is = concat_parts (first ∷ others) (gap ∷ []) ∙ ap (λ (xs : List ℕ). xs ++ gap) x_is

    joined_pieces : lines_more (kind_of first) (others ++ gap ∷ []) ≡ length (others ++ gap ∷ []) → items_of front ≡ ps ++ w ∷ []
    joined_pieces goes =
        cut_with gap
        ∙ ap (λ (qs : List Piece). ps ++ qs)
        (cut_whole at number first (others ++ gap ∷ []) goes
        ∙ ap (λ (n : ℕ). piece at n number (kind_of first) ∷ []) (ap length all_is))

    -- the empty line goes into the last piece, which is one of empty lines and remarks
    joins : kind_of first ≡ kinds.Gap → lines_more (kind_of first) (others ++ gap ∷ []) ≡ length (others ++ gap ∷ []) → reading c number (x ++ gap) ≡ Ok i → IsFront year text front items
    joins kind goes h = record {
      ends = front_ends;
      shut =
          open_with gap
          ∙ both_false (is_block (kind_of first) && not (list_any closes_block (others ++ gap ∷ []))) (open_in (lines_more (kind_of first) (others ++ gap ∷ [])) (others ++ gap ∷ []))
          (ap (λ (k : Kind). is_block k && not (list_any closes_block (others ++ gap ∷ []))) kind)
          (ap (λ (j : ℕ). open_in j (others ++ gap ∷ [])) goes ∙ open_none (others ++ gap ∷ []));
      ended =
          reads (parted.front ++ placed_as w i ∷ [])
          (ap (reading_from year [] front) (joined_pieces goes)
          ∙ read_front year [] head (x ++ gap) ps (w ∷ []) parted.front within front_read
          ∙ ap (before_more parted.front) (alone_read year (items_at parted.front) front w i (ap (reading c number) w_bytes ∙ h)))
          (same_end w) (same_txns w);
    }

  -- ---- the kinds of the last piece

  abbrev x : List ℕ
  x = bytes ++ line_end text

  open_is : has_open_block text ≡ (is_block (kind_of l) && not (list_any closes_block rest))
  open_is =
      open_block_is text
      ∙ ap (open_in 0) found.is
      ∙ found.leaves l rest refl refl
      ∙ or_none (is_block (kind_of l) && not (list_any closes_block rest)) (open_in (lines_more (kind_of l) rest) rest) (ap (λ (j : ℕ). open_in j rest) found.whole ∙ open_none rest)

  block_is : (t : Bool) → has_open_block text ≡ t → block_end text ≡ cond t end_line []
  block_is t h = ap (λ (u : Bool). cond u end_line []) h

  abbrev full : List ℕ
  full = text ++ (line_end text ++ (block_end text ++ gap))

  regroup : (ls be : List ℕ) → text ++ (ls ++ (be ++ gap)) ≡ head ++ (((bytes ++ ls) ++ be) ++ gap)
  regroup ls be =
      ap (λ (t : List ℕ). t ++ (ls ++ (be ++ gap))) text_is
      ∙ append_assoc head bytes (ls ++ (be ++ gap))
      ∙ ap (λ (t : List ℕ). head ++ t) (sym (append_assoc bytes ls (be ++ gap)) ∙ sym (append_assoc (bytes ++ ls) be gap))

  without : block_end text ≡ [] → IsFront year text (head ++ (x ++ gap)) items → IsFront year text full items
  without e h =
      subst (λ (t : List ℕ). IsFront year text t items)
      (sym (ap (λ (be : List ℕ). text ++ (line_end text ++ (be ++ gap))) e ∙ regroup (line_end text) [] ∙ ap (λ (t : List ℕ). head ++ (t ++ gap)) (append-nil x))) h

  with_end : block_end text ≡ end_line → IsFront year text (head ++ ((x ++ end_line) ++ gap)) items → IsFront year text full items
  with_end e h =
      subst (λ (t : List ℕ). IsFront year text t items)
      (sym (ap (λ (be : List ℕ). text ++ (line_end text ++ (be ++ gap))) e ∙ regroup (line_end text) end_line)) h

  grows_of : EndOf text → Grows l rest x
  grows_of (does_end e h) = subst (Grows l rest) (sym (ap (λ (t : List ℕ). bytes ++ t) e ∙ append-nil bytes)) (grows_not bytes l rest bytes_lines (ends_behind head bytes (subst EndsLine text_is h)))
  grows_of (does_lack e h) = subst (Grows l rest) (sym (ap (λ (t : List ℕ). bytes ++ t) e)) (grows_lacking bytes l rest bytes_lines (lacks_behind head bytes (subst Lacks text_is h)))

  grows : Grows l rest x
  grows = grows_of (end_of b bs)

  end_utf8 : EndOf text → is_utf8 (line_end text) ≡ true
  end_utf8 (does_end e h) = ap is_utf8 e ∙ empty_utf8
  end_utf8 (does_lack e h) = ap is_utf8 e ∙ utf8_ascii gap refl

  x_utf8 : is_utf8 x ≡ true
  x_utf8 = utf8_append bytes (line_end text) utf8 (end_utf8 (end_of b bs))

  many : length grows.others ≡ length rest
  many = alike_length rest grows.others grows.likes

  -- an entry, or a directive
  limited_goes : (k : Kind) (f : Context → ℕ → List (List ℕ) → Result Item Fault) → kind_of l ≡ k
      → ((context : Context) (line : ℕ) (bytes : List ℕ) → said_by k context line bytes ≡ cond {A = Result Item Fault} (nat_lt 65536 (length bytes)) (Err (fault_at line cause.TooLong)) (f context line (contents_of bytes)))
      → EndOf text → (reading c number x ≡ Ok i) ⊎ ((length bytes ≡ 65536) × ((line_end text ≡ gap) × (reading c number x ≡ Err (fault_at number cause.TooLong))))
  limited_goes k f kind is (does_end e h) = inl (ap (reading c number) (ap (λ (t : List ℕ). bytes ++ t) e ∙ append-nil bytes) ∙ here)
  limited_goes k f kind is (does_lack e h) = by (goes_by c number bytes gap (λ xs. f c number (contents_of xs)) i with_gap equal small own)
    where
      longer : bytes ++ gap ≡ x
      longer = sym (ap (λ (t : List ℕ). bytes ++ t) e)

      with_gap : reading c number (bytes ++ gap) ≡ cond {A = Result Item Fault} (nat_lt 65536 (length (bytes ++ gap))) (Err (fault_at number cause.TooLong)) (f c number (contents_of (bytes ++ gap)))
      with_gap =
          ap (reading c number) longer
          ∙ reading_kind c number x grows.first grows.others k x_utf8 grows.lines ((grows.like).kind ∙ kind)
          ∙ is c number x
          ∙ ap (λ (t : List ℕ). cond {A = Result Item Fault} (nat_lt 65536 (length t)) (Err (fault_at number cause.TooLong)) (f c number (contents_of t))) (sym longer)

      contents_of_last : (t : List ℕ) → lines_of t ≡ l ∷ rest → Lacks t → contents_of (t ++ gap) ≡ contents_of t
      contents_of_last [] e_lines g = absurd (let never : ⊥ = cc in never)
      contents_of_last (d ∷ ds) e_lines g = contents_ended d ds g

      equal : f c number (contents_of (bytes ++ gap)) ≡ f c number (contents_of bytes)
      equal = ap (f c number) (contents_of_last bytes bytes_lines (lacks_behind head bytes (subst Lacks text_is h)))

      small : length (bytes ++ gap) ≤ length bytes + 1
      small = omega (arith, length-append bytes gap)

      own : cond {A = Result Item Fault} (nat_lt 65536 (length bytes)) (Err (fault_at number cause.TooLong)) (f c number (contents_of bytes)) ≡ Ok i
      own = sym (is c number bytes) ∙ sym (reading_kind c number bytes l rest k utf8 bytes_lines kind) ∙ here

      by : Goes c number bytes gap i → (reading c number x ≡ Ok i) ⊎ ((length bytes ≡ 65536) × ((line_end text ≡ gap) × (reading c number x ≡ Err (fault_at number cause.TooLong))))
      by (stays r) = inl (sym (ap (reading c number) longer) ∙ r)
      by (over n r) = inr (n, (e, sym (ap (reading c number) longer) ∙ r))

  -- a remark, or a block: what it says is the same whatever its bytes are
  quiet : (k : Kind) (s : Item) (bytes_two first : List ℕ) (others : List (List ℕ)) → kind_of l ≡ k → ((context : Context) (line : ℕ) (t : List ℕ) → said_by k context line t ≡ Ok s)
      → is_utf8 bytes_two ≡ true → lines_of bytes_two ≡ first ∷ others → kind_of first ≡ k → reading c number bytes_two ≡ Ok i
  quiet k s bytes_two first others kind is utf8_two lines kind_two =
      reading_kind c number bytes_two first others k utf8_two lines kind_two
      ∙ is c number bytes_two
      ∙ sym (is c number bytes)
      ∙ sym (reading_kind c number bytes l rest k utf8 bytes_lines kind)
      ∙ here

  own_run : (p : List ℕ → Bool) → length (take_while p rest) ≡ length rest → prefix_len p grows.others ≡ prefix_len p rest → prefix_len p grows.others ≡ length grows.others
  own_run p whole same = same ∙ sym (length-prefix_len p rest) ∙ whole ∙ sym many

  whole_by : (k : Kind) → kind_of l ≡ k → lines_more k rest ≡ length rest
  whole_by k kind = ap (λ (j : Kind). lines_more j rest) (sym kind) ∙ found.whole

  shut_by : (k : Kind) → kind_of l ≡ k → is_block k ≡ false → block_end text ≡ []
  shut_by k kind other = block_is false (open_is ∙ ap (λ (j : Kind). is_block j && not (list_any closes_block rest)) kind ∙ ap (λ (t : Bool). t && not (list_any closes_block rest)) other)

  first_kind : (k : Kind) → kind_of l ≡ k → kind_of grows.first ≡ k
  first_kind k kind = (grows.like).kind ∙ kind

  -- pieces whose further lines are indented
  indented_by : (k : Kind) → kind_of l ≡ k → is_block k ≡ false → ((ls : List (List ℕ)) → lines_more k ls ≡ length (take_while is_indented ls))
      → (reading c number x ≡ Ok i) ⊎ ((length bytes ≡ 65536) × ((line_end text ≡ gap) × (reading c number x ≡ Err (fault_at number cause.TooLong)))) → IsFront year text full items
  indented_by k kind other goes outcome =
      without (shut_by k kind other)
      (apart x grows.first grows.others grows.lines grows.ended grows.like
      (ap (λ (j : Kind). lines_more j (grows.others ++ gap ∷ [])) (first_kind k kind)
      ∙ goes (grows.others ++ gap ∷ [])
      ∙ runs_on is_indented grows.others (gap ∷ []) (own_run is_indented (sym (goes rest) ∙ whole_by k kind) (alike_indents rest grows.others grows.likes))
      ∙ plain (length grows.others))
      (ap (λ (j : Kind). is_block j && not (list_any closes_block (grows.others ++ gap ∷ []))) (first_kind k kind) ∙ ap (λ (t : Bool). t && not (list_any closes_block (grows.others ++ gap ∷ []))) other)
      outcome)
    where
      plain : (n : ℕ) → n + 0 ≡ n
      plain n = omega arith

  gap_by : kind_of l ≡ kinds.Gap → IsFront year text full items
  gap_by kind =
      without (shut_by kinds.Gap kind refl)
      (joins x grows.first grows.others grows.lines grows.ended grows.like (first_kind kinds.Gap kind)
      (ap (λ (j : Kind). lines_more j (grows.others ++ gap ∷ [])) (first_kind kinds.Gap kind)
      ∙ runs_on is_remark grows.others (gap ∷ []) (own_run is_remark (whole_by kinds.Gap kind) (alike_remarks rest grows.others grows.likes))
      ∙ sym (length-append grows.others (gap ∷ [])))
      (quiet kinds.Gap item.Gap (x ++ gap) grows.first (grows.others ++ gap ∷ []) kind (λ context line t. refl)
      (utf8_append x gap x_utf8 (utf8_ascii gap refl))
      (lines_front x gap grows.ended ∙ ap (λ (ls : List (List ℕ)). ls ++ gap ∷ []) grows.lines)
      (first_kind kinds.Gap kind)))

  block_by : (t : Bool) → list_any closes_block rest ≡ t → kind_of l ≡ kinds.Block → IsFront year text full items
  block_by true any kind =
      without (block_is false (open_is ∙ ap (λ (j : Kind). is_block j && not (list_any closes_block rest)) kind ∙ ap not any))
      (apart x grows.first grows.others grows.lines grows.ended grows.like
      (ap (λ (j : Kind). lines_more j (grows.others ++ gap ∷ [])) (first_kind kinds.Block kind)
      ∙ close_front grows.others (gap ∷ []) others_any
      ∙ alike_to_close rest grows.others grows.likes
      ∙ whole_by kinds.Block kind
      ∙ sym many)
      (ap (λ (j : Kind). is_block j && not (list_any closes_block (grows.others ++ gap ∷ []))) (first_kind kinds.Block kind) ∙ ap not (any_front grows.others (gap ∷ []) others_any))
      (inl (quiet kinds.Block item.Block x grows.first grows.others kind (λ context line t. refl) x_utf8 grows.lines (first_kind kinds.Block kind))))
    where
      others_any : list_any closes_block grows.others ≡ true
      others_any = alike_closes rest grows.others grows.likes ∙ any
  block_by false any kind =
      with_end (block_is true (open_is ∙ ap (λ (j : Kind). is_block j && not (list_any closes_block rest)) kind ∙ ap not any))
      (apart (x ++ end_line) grows.first (grows.others ++ end_line ∷ []) lines_two
      (ends_more x 101 (codes "nd comment" ++ (10 ∷ [])) refl)
      grows.like
      (ap (λ (j : Kind). lines_more j ((grows.others ++ end_line ∷ []) ++ gap ∷ [])) (first_kind kinds.Block kind)
      ∙ close_front (grows.others ++ end_line ∷ []) (gap ∷ []) two_any
      ∙ close_on grows.others (alike_closes rest grows.others grows.likes ∙ any)
      ∙ sym (length-append grows.others (end_line ∷ [])))
      (ap (λ (j : Kind). is_block j && not (list_any closes_block ((grows.others ++ end_line ∷ []) ++ gap ∷ []))) (first_kind kinds.Block kind) ∙ ap not (any_front (grows.others ++ end_line ∷ []) (gap ∷ []) two_any))
      (inl (quiet kinds.Block item.Block (x ++ end_line) grows.first (grows.others ++ end_line ∷ []) kind (λ context line t. refl) (utf8_append x end_line x_utf8 (utf8_ascii end_line refl)) lines_two (first_kind kinds.Block kind))))
    where
      two_any : list_any closes_block (grows.others ++ end_line ∷ []) ≡ true
      two_any = any_on grows.others end_line refl

      lines_two : lines_of (x ++ end_line) ≡ grows.first ∷ (grows.others ++ end_line ∷ [])
      lines_two = lines_front x end_line grows.ended ∙ ap (λ (ls : List (List ℕ)). ls ++ end_line ∷ []) grows.lines

  by_kind : (k : Kind) → kind_of l ≡ k → IsFront year text full items
  by_kind kinds.Gap kind = gap_by kind
  by_kind kinds.Block kind = block_by (list_any closes_block rest) refl kind
  by_kind kinds.Entry kind = indented_by kinds.Entry kind refl (λ ls. refl) (limited_goes kinds.Entry entry_of kind (λ context line t. refl) (end_of b bs))
  by_kind kinds.Head kind = indented_by kinds.Head kind refl (λ ls. refl) (limited_goes kinds.Head head_item kind (λ context line t. refl) (end_of b bs))
  by_kind kinds.Stray kind = absurd (no_stray c number bytes i (sym (reading_kind c number bytes l rest kinds.Stray utf8 bytes_lines kind) ∙ here))

  -- With its end a text that reads is one that an entry can be put behind.
  pub front_is : IsFront year text full items
  front_is = by_kind (kind_of l) refl
