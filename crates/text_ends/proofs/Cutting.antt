-- A text with bytes behind it is cut into its pieces, the last of them longer, and those of the rest of the bytes.
use Rattle.std.proofs.Common.{ℕ, zero, suc, ◌≡◌, ◌+◌, ◌-◌, ◌≤◌, Bool, true, false, cond, ◌==◌, ◌&&◌, ◌||◌, not, List, [], ◌∷◌, ◌++◌, length, take, drop, map, Some, refl, sym, ap, subst, ◌∙◌, arith, append_assoc, append-nil, length-append, length-drop}
use Rattle.std.specs.List.{concat, list_any, prefix_len, slice_get}
use Rattle.std.proofs.Math.Seq.{drop-append_seam, take-append_seam, take-length}
use Rattle.std.proofs.lemmas.Bool.{eqb-true, false≢true}
use Rattle.std.proofs.lemmas.List.Folds.{length-prefix_len}
use Rattle.hl_base.specs.Items.{closes_block, cut_from, is_indented, is_remark, items_of, kind_of, lines_more, lines_to_close}
use Rattle.hl_base.specs.Lines.{lines_of}
use Rattle.hl_base.specs.Pieces.{span}
use Rattle.hl_base.specs.declared.items.Kind.{Kind}
use Rattle.hl_base.specs.declared.items.Kind.TheVariants as kinds
use Rattle.hl_base.specs.declared.items.Piece.{Piece}
use Rattle.hl_base.proofs.LineLemmas.{lines_split}
use Rattle.text_ends.specs.Ends.{ends_line, front_of, is_block, is_unclosed, last_of}
use Rattle.text_ends.specs.Growth.{begins_empty, goes_indented, joins, lacked, shifted}
use Rattle.text_ends.proofs.Alike.{AreAlike, Grows, Lacks, alike_closes, alike_indents, alike_length, alike_remarks, alike_to_close, ends_behind, grows_lacking, grows_not, lacks_behind, lacks_line}
use Rattle.text_ends.proofs.Bounds.{close_front, close_over, last_open, more_bound, runs_on}
use Rattle.text_ends.proofs.Lasts.{Parts, parts}
use Rattle.text_ends.proofs.Lining.{EndsLine, concat_lines, concat_parts, ends_with_line, gap, lines_before, lines_behind, lines_front}
use Rattle.text_ends.proofs.Passing.{drop_lines, skip}

abbrev pub piece : ℕ → ℕ → ℕ → Kind → Piece
piece at len line kind = record { at = at; len = len; line = line; kind = kind }

-- ---- lists

pub take_over : {X : Type 0} (xs ys : List X) (n : ℕ) → take (length xs + n) (xs ++ ys) ≡ xs ++ take n ys
take_over {X} [] ys n = ap (λ (k : ℕ). take k ys) (let e : 0 + n ≡ n = omega arith in e)
take_over {X} (x ∷ xs) ys n =
    let e : length (x ∷ xs) + n ≡ suc (length xs + n) = omega arith in
    ap (λ (k : ℕ). take k (x ∷ (xs ++ ys))) e ∙ ap (λ (zs : List X). x ∷ zs) (take_over xs ys n)

-- the last of some, and the others
pub last_is : {X : Type 0} (ps : List X) (p : X) → last_of (ps ++ p ∷ []) ≡ Some p
last_is {X} ps p = ap (λ (k : ℕ). slice_get (ps ++ p ∷ []) k) (let e : length (ps ++ p ∷ []) - 1 ≡ length ps = omega (arith, length-append ps (p ∷ [])) in e) ∙ at_end ps p
  where
    at_end : (qs : List X) (q : X) → slice_get (qs ++ q ∷ []) (length qs) ≡ Some q
    at_end [] q = refl
    at_end (r ∷ qs) q = at_end qs q

pub front_is : {X : Type 0} (ps : List X) (p : X) → front_of (ps ++ p ∷ []) ≡ ps
front_is ps p = ap (λ (k : ℕ). take k (ps ++ p ∷ [])) (let e : length (ps ++ p ∷ []) - 1 ≡ length ps = omega (arith, length-append ps (p ∷ [])) in e) ∙ take-append_seam ps (p ∷ [])

-- ---- pieces further on

assoc : (a b c : ℕ) → a + b + c ≡ a + (b + c)
assoc a b c = omega arith

-- pieces that begin further on are the same ones further on
pub cut_shift : (a b n at line : ℕ) (ls : List (List ℕ)) → cut_from n (a + at) (b + line) ls ≡ map (shifted a b) (cut_from n at line ls)
cut_shift a b n at line [] = refl
cut_shift a b (suc n) at line (l ∷ ls) =
    (λ i. cut_from n (assoc a at (length l) i) (assoc b line 1 i) ls) ∙ cut_shift a b n (at + length l) (line + 1) ls
cut_shift a b zero at line (l ∷ ls) =
    let k = kind_of l in
    let n = lines_more k ls in
    let one = piece (a + at) (length l + length (concat (take n ls))) (b + line) k in
    ap (λ (ps : List Piece). one ∷ ps)
    ((λ i. cut_from n (assoc a at (length l) i) (assoc b line 1 i) ls) ∙ cut_shift a b n (at + length l) (line + 1) ls)

-- lines that a piece has taken are passed over
pub pass_over : (xs ys : List (List ℕ)) (n at line : ℕ) → cut_from (length xs + n) at line (xs ++ ys) ≡ cut_from n (at + length (concat xs)) (line + length xs) ys
pass_over [] ys n at line =
    let e : 0 + n ≡ n = omega arith in
    let a : at ≡ at + 0 = omega arith in
    let l : line ≡ line + 0 = omega arith in
    λ i. cut_from (e i) (a i) (l i) ys
pass_over (x ∷ xs) ys n at line =
    let e : length (x ∷ xs) + n ≡ suc (length xs + n) = omega arith in
    let a : at + length x + length (concat xs) ≡ at + length (concat (x ∷ xs)) = omega (arith, length-append x (concat xs)) in
    let l : line + 1 + length xs ≡ line + suc (length xs) = omega arith in
    ap (λ (k : ℕ). cut_from k at line (x ∷ (xs ++ ys))) e ∙ pass_over xs ys n (at + length x) (line + 1) ∙ (λ i. cut_from n (a i) (l i) ys)

-- a piece of some lines and of so many more, and the pieces behind it
cut_grown : (at line n : ℕ) (f : List ℕ) (os : List (List ℕ)) (r : List ℕ) → lines_more (kind_of f) (os ++ lines_of r) ≡ length os + n
    → cut_from 0 at line (f ∷ (os ++ lines_of r))
    ≡ piece at (length (concat (f ∷ os)) + span n (lines_of r)) line (kind_of f)
    ∷ map (shifted (at + length (concat (f ∷ os)) + span n (lines_of r)) (line + length os + n)) (items_of (drop (span n (lines_of r)) r))
cut_grown at line n f os r h =
    let ms = lines_of r in
    let k = kind_of f in
    let size : length f + length (concat (os ++ take n ms)) ≡ length (concat (f ∷ os)) + span n ms =
    omega (arith, ap length (concat_parts os (take n ms)), length-append (concat os) (concat (take n ms)), length-append f (concat os)) in
    let begins : at + length f + length (concat os) + span n ms ≡ at + length (concat (f ∷ os)) + span n ms + 0 = omega (arith, length-append f (concat os)) in
    let second : line + 1 + length os + n ≡ line + length os + n + 1 = omega arith in
    let left : drop n ms ≡ lines_of (drop (span n ms) r) = drop_lines n r 0 ∙ ap (λ (j : ℕ). lines_of (drop j r)) (let z : 0 + span n ms ≡ span n ms = omega arith in z) in
    ap (λ (j : ℕ). piece at (length f + length (concat (take j (os ++ ms)))) line k ∷ cut_from j (at + length f) (line + 1) (os ++ ms)) h
    ∙ ap (λ (xs : List (List ℕ)). piece at (length f + length (concat xs)) line k ∷ cut_from (length os + n) (at + length f) (line + 1) (os ++ ms)) (take_over os ms n)
    ∙ ap (λ (j : ℕ). piece at j line k ∷ cut_from (length os + n) (at + length f) (line + 1) (os ++ ms)) size
    ∙ ap (λ (ps : List Piece). piece at (length (concat (f ∷ os)) + span n ms) line k ∷ ps)
    (pass_over os ms n (at + length f) (line + 1)
    ∙ skip n (at + length f + length (concat os)) (line + 1 + length os) ms
    ∙ (λ i. cut_from 0 (begins i) (second i) (left i))
    ∙ cut_shift (at + length (concat (f ∷ os)) + span n ms) (line + length os + n) 0 0 1 (lines_of (drop (span n ms) r)))

-- ---- the last piece of a text

-- where the bytes begin with an empty line, none of their first lines is indented
empty_first : (b : ℕ) (bs : List ℕ) → b ≡ 10 → prefix_len is_indented (lines_of (b ∷ bs)) ≡ 0
empty_first b bs e = ap (λ (c : ℕ). prefix_len is_indented (lines_of (c ∷ bs))) e

none_indented : (bytes : List ℕ) → begins_empty bytes ≡ true → prefix_len is_indented (lines_of bytes) ≡ 0
none_indented [] h = refl
none_indented (b ∷ bs) h = empty_first b bs (eqb-true b 10 h)

-- how many lines a last piece takes of others behind it
abbrev pub joined : Kind → Bool → List ℕ → ℕ
joined k unclosed r = cond (joins k unclosed) (lines_more k (lines_of r)) 0

joined_bound : (k : Kind) (unclosed : Bool) (r : List ℕ) → joined k unclosed r ≤ length (lines_of r)
joined_bound k unclosed r = by (joins k unclosed)
  where
    by : (t : Bool) → cond t (lines_more k (lines_of r)) 0 ≤ length (lines_of r)
    by true = more_bound k (lines_of r)
    by false = omega arith

goes_by : (k : Kind) (rest others : List (List ℕ)) (r : List ℕ) → AreAlike rest others → lines_more k rest ≡ length rest → (not (goes_indented k) || begins_empty r) ≡ true
    → lines_more k (others ++ lines_of r) ≡ length others + joined k (is_block k && not (list_any closes_block rest)) r
goes_by kinds.Gap rest others r like whole apart =
    runs_on is_remark others (lines_of r) (alike_remarks rest others like ∙ sym (length-prefix_len is_remark rest) ∙ whole ∙ sym (alike_length rest others like))
    ∙ ap (λ (n : ℕ). length others + n) (sym (length-prefix_len is_remark (lines_of r)))
goes_by kinds.Block rest others r like whole apart = by (list_any closes_block rest) refl
  where
    by : (t : Bool) → list_any closes_block rest ≡ t → lines_to_close (others ++ lines_of r) ≡ length others + cond (not (list_any closes_block rest)) (lines_to_close (lines_of r)) 0
    by true any =
        close_front others (lines_of r) (alike_closes rest others like ∙ any)
        ∙ alike_to_close rest others like ∙ whole ∙ sym (alike_length rest others like)
        ∙ (let z : length others ≡ length others + 0 = omega arith in z)
        ∙ sym (ap (λ (t : Bool). length others + cond (not t) (lines_to_close (lines_of r)) 0) any)
    by false any =
        close_over others (lines_of r) (alike_closes rest others like ∙ any)
        ∙ sym (ap (λ (t : Bool). length others + cond (not t) (lines_to_close (lines_of r)) 0) any)
goes_by kinds.Entry rest others r like whole apart =
    runs_on is_indented others (lines_of r) (alike_indents rest others like ∙ sym (length-prefix_len is_indented rest) ∙ whole ∙ sym (alike_length rest others like))
    ∙ ap (λ (n : ℕ). length others + n) (none_indented r apart)
goes_by kinds.Head rest others r like whole apart =
    runs_on is_indented others (lines_of r) (alike_indents rest others like ∙ sym (length-prefix_len is_indented rest) ∙ whole ∙ sym (alike_length rest others like))
    ∙ ap (λ (n : ℕ). length others + n) (none_indented r apart)
goes_by kinds.Stray rest others r like whole apart =
    runs_on is_indented others (lines_of r) (alike_indents rest others like ∙ sym (length-prefix_len is_indented rest) ∙ whole ∙ sym (alike_length rest others like))
    ∙ ap (λ (n : ℕ). length others + n) (none_indented r apart)

pub all_taken : (at line : ℕ) (ls : List (List ℕ)) → cut_from (length ls) at line ls ≡ []
all_taken at line [] = refl
all_taken at line (l ∷ ls) = all_taken (at + length l) (line + 1) ls

-- a piece of all lines
cut_whole : (at line : ℕ) (l : List ℕ) (ls : List (List ℕ)) → lines_more (kind_of l) ls ≡ length ls → cut_from 0 at line (l ∷ ls) ≡ piece at (length (concat (l ∷ ls))) line (kind_of l) ∷ []
cut_whole at line l ls h =
    ap (λ (j : ℕ). piece at (length l + length (concat (take j ls))) line (kind_of l) ∷ cut_from j (at + length l) (line + 1) ls) h
    ∙ ap (λ (xs : List (List ℕ)). piece at (length l + length (concat xs)) line (kind_of l) ∷ cut_from (length ls) (at + length l) (line + 1) ls) (take-length ls)
    ∙ ap (λ (ps : List Piece). piece at (length l + length (concat ls)) line (kind_of l) ∷ ps) (all_taken (at + length l) (line + 1) ls)
    ∙ ap (λ (n : ℕ). piece at n line (kind_of l) ∷ []) (sym (length-append l (concat ls)))

-- ---- the line's end that a text lacks, and what is behind it

-- The bytes begin with the line's end that a text lacks.
pub record Leads (ended : Bool) (bytes : List ℕ) : Type 0 where
  pub end : List ℕ
  pub is : bytes ≡ end ++ drop (lacked ended) bytes
  pub size : length end ≡ lacked ended
  pub which : end ≡ cond {A = List ℕ} ended [] gap

first_byte : (b : ℕ) (bs : List ℕ) → (b == 10) ≡ true → b ∷ bs ≡ gap ++ bs
first_byte b bs h = ap (λ (c : ℕ). c ∷ bs) (eqb-true b 10 h)

pub leads : (ended : Bool) (bytes : List ℕ) → (ended || begins_empty bytes) ≡ true → Leads ended bytes
leads true bytes h = record { end = []; is = refl; size = refl; which = refl }
leads false [] h = absurd (false≢true h)
leads false (b ∷ bs) h = record { end = gap; is = first_byte b bs h; size = refl; which = refl }

module _ (b : ℕ) (bs : List ℕ) where
  abbrev pub text : List ℕ
  text = b ∷ bs

  pub found : Parts 0 (lines_of text)
  found = parts 0 (lines_of text) (omega (arith, ap length (lines_split text (omega arith))))

  abbrev pub fs : List (List ℕ)
  fs = found.front

  abbrev pub l : List ℕ
  l = found.first

  abbrev pub rest : List (List ℕ)
  rest = found.rest

  abbrev pub head : List ℕ
  head = concat fs

  -- the bytes of the last piece
  abbrev pub own : List ℕ
  own = concat (l ∷ rest)

  abbrev pub ps : List Piece
  ps = cut_from 0 0 1 fs

  abbrev pub at : ℕ
  at = 0 + length head

  abbrev pub number : ℕ
  number = 1 + length fs

  abbrev pub last : Piece
  last = piece at (length own) number (kind_of l)

  pub text_is : text ≡ head ++ own
  text_is = sym (concat_lines text) ∙ ap concat found.is ∙ concat_parts fs (l ∷ rest)

  pub own_lines : lines_of own ≡ l ∷ rest
  own_lines = lines_behind fs (l ∷ rest) text found.is

  pub items_are : items_of text ≡ ps ++ last ∷ []
  items_are = ap (cut_from 0 0 1) found.is ∙ found.cut 0 1 l rest refl refl ∙ ap (λ (qs : List Piece). ps ++ qs) (cut_whole at number l rest found.whole)

  pub last_found : last_of (items_of text) ≡ Some last
  last_found = ap (λ (qs : List Piece). last_of qs) items_are ∙ last_is ps last

  none_more : (n : ℕ) → 0 + n ≡ n
  none_more n = omega arith

  pub behind_head : drop at text ≡ own
  behind_head = ap (drop at) text_is ∙ ap (λ (j : ℕ). drop j (head ++ own)) (none_more (length head)) ∙ drop-append_seam head own

  abbrev pub unclosed : Bool
  unclosed = is_unclosed text (last_of (items_of text))

  pub unclosed_is : unclosed ≡ (is_block (kind_of l) && not (list_any closes_block rest))
  unclosed_is =
      ap (is_unclosed text) last_found
      ∙ ap (λ (xs : List ℕ). is_block (kind_of l) && not (list_any closes_block (lines_of xs))) behind_head
      ∙ ap (λ (ls : List (List ℕ)). is_block (kind_of l) && not (list_any closes_block ls)) own_lines
      ∙ last_open (kind_of l) l rest refl

  abbrev pub ended : Bool
  ended = ends_line text

  -- the last piece's bytes with the line's end that they lack
  pub grows : (t : Bool) → ended ≡ t → Grows l rest (own ++ cond {A = List ℕ} t [] gap)
  grows true h = subst (Grows l rest) (sym (append-nil own)) (grows_not own l rest own_lines (ends_behind head own (subst EndsLine text_is (ends_with_line text h))))
  grows false h = grows_lacking own l rest own_lines (lacks_behind head own (subst Lacks text_is (lacks_line text h)))

  module _ (bytes : List ℕ) (begins : (ended || begins_empty bytes) ≡ true) (apart : (not (goes_indented (kind_of l)) || begins_empty (drop (lacked ended) bytes)) ≡ true) where
    pub lead : Leads ended bytes
    lead = leads ended bytes begins

    -- what is behind the line's end
    abbrev pub r : List ℕ
    r = drop (lacked ended) bytes

    abbrev pub x : List ℕ
    x = own ++ lead.end

    pub grown : Grows l rest x
    grown = subst (λ (e : List ℕ). Grows l rest (own ++ e)) (sym lead.which) (grows ended refl)

    abbrev pub first : List ℕ
    first = grown.first

    abbrev pub others : List (List ℕ)
    others = grown.others

    pub whole_is : text ++ bytes ≡ head ++ (x ++ r)
    whole_is =
        ap (λ (t : List ℕ). t ++ bytes) text_is
        ∙ append_assoc head own bytes
        ∙ ap (λ (t : List ℕ). head ++ (own ++ t)) lead.is
        ∙ ap (λ (t : List ℕ). head ++ t) (sym (append_assoc own lead.end r))

    pub lines_with : lines_of (head ++ (x ++ r)) ≡ fs ++ first ∷ (others ++ lines_of r)
    lines_with =
        lines_before fs (l ∷ rest) text (x ++ r) found.is (omega arith)
        ∙ ap (λ (ls : List (List ℕ)). fs ++ ls) (lines_front x r grown.ended ∙ ap (λ (ls : List (List ℕ)). ls ++ lines_of r) grown.lines)

    abbrev pub n : ℕ
    n = joined (kind_of l) unclosed r

    abbrev pub many : ℕ
    many = span n (lines_of r)

    first_kind : kind_of first ≡ kind_of l
    first_kind = (grown.like).kind

    goes : lines_more (kind_of first) (others ++ lines_of r) ≡ length others + n
    goes =
        ap (λ (k : Kind). lines_more k (others ++ lines_of r)) first_kind
        ∙ goes_by (kind_of l) rest others r grown.likes found.whole apart
        ∙ ap (λ (t : Bool). length others + joined (kind_of l) t r) (sym unclosed_is)

    x_is : concat (first ∷ others) ≡ x
    x_is = ap concat (sym grown.lines) ∙ concat_lines x

    x_size : length (concat (first ∷ others)) ≡ length own + lacked ended
    x_size = ap length x_is ∙ length-append own lead.end ∙ ap (λ (k : ℕ). length own + k) lead.size

    -- the pieces, by where the last one ends
    pub cut_at : items_of (text ++ bytes) ≡ ps ++ (piece at (length own + (lacked ended + many)) number (kind_of l) ∷ map (shifted (length text + (lacked ended + many)) (length (lines_of text) + n)) (items_of (drop many r)))
    cut_at =
        ap items_of whole_is
        ∙ ap (cut_from 0 0 1) lines_with
        ∙ found.cut 0 1 first (others ++ lines_of r) (grown.like).remark (grown.like).indented
        ∙ ap (λ (qs : List Piece). ps ++ qs)
        (cut_grown at number n first others r goes
        ∙ (λ i. piece at (size i) number (first_kind i) ∷ map (shifted (place i) (line i)) (items_of (drop many r))))
      where
        size : length (concat (first ∷ others)) + many ≡ length own + (lacked ended + many)
        size = omega (arith, x_size)

        place : at + length (concat (first ∷ others)) + many ≡ length text + (lacked ended + many)
        place = omega (arith, x_size, ap length text_is, length-append head own)

        line : number + length others + n ≡ length (lines_of text) + n
        line = omega (arith, ap length found.is, length-append fs (l ∷ rest), alike_length rest others grown.likes)

    pub many_lines : length (lines_of (text ++ bytes)) ≡ length (lines_of text) + n + length (lines_of (drop many r))
    many_lines =
        let all : length (lines_of (text ++ bytes)) ≡ length (fs ++ first ∷ (others ++ lines_of r)) = ap (λ (t : List ℕ). length (lines_of t)) whole_is ∙ ap length lines_with in
        let left : drop n (lines_of r) ≡ lines_of (drop many r) = drop_lines n r 0 ∙ ap (λ (j : ℕ). lines_of (drop j r)) (none_more many) in
        let few : n ≤ length (lines_of r) = joined_bound (kind_of l) unclosed r in
        omega (arith, all, ap length left, few, length-drop n (lines_of r), length-append fs (first ∷ (others ++ lines_of r)), length-append others (lines_of r), ap length found.is, length-append fs (l ∷ rest), alike_length rest others grown.likes)
