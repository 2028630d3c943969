-- The end of a text in which entries and gaps stand in the place of an entry.
use Rattle.std.proofs.Common.{◌≡◌, ℕ, suc, ◌+◌, ◌-◌, ◌^◌, ◌<◌, Bool, true, false, cond, ◌==◌, ◌&&◌, ◌||◌, not, List, [], ◌∷◌, ◌++◌, length, take, drop, map, Option, Some, None, refl, sym, ap, ◌∙◌, inl, inr, arith, append_assoc, append-nil, drop-drop, length-append, length-drop}
use Rattle.std.specs.Prelude.{IfSome, option_map, slice_index}
use Rattle.std.specs.List.{concat, list_any, slice_get, AllByRecursion}
use Rattle.std.proofs.lemmas.Bool.{cases_lt, eqb-false, eqb-true, false≢true}
use Rattle.std.proofs.lemmas.List.{drop_all, length-map, nil_from_length}
use Rattle.hl_base.specs.Items.{closes_block, cut_from, items_of}
use Rattle.hl_base.specs.Lines.{lines_of}
use Rattle.hl_base.specs.declared.items.Kind.{Kind}
use Rattle.hl_base.specs.declared.items.Kind.TheVariants as kinds
use Rattle.hl_base.specs.declared.items.Piece.{Piece}
use Rattle.hl_base.proofs.LineLemmas.{lines_split}
use Rattle.book.specs.declared.item.Placed.{Placed}
use Rattle.moved_lines.specs.Moving.{CanMove, moved_number, moved_piece}
use Rattle.moved_lines.specs.declared.shift.Offset.{Offset}
use Rattle.text_ends.specs.declared.kept.KeptEnd.{KeptEnd}
use Rattle.text_ends.specs.Ends.{end_of, ends_line, is_block, is_unclosed, last_of}
use Rattle.text_ends.specs.Growth.{shifted}
use Rattle.text_ends.proofs.Saying.{drop_behind}
use Rattle.changed_texts.specs.Meeting.{AreEntries, is_entry_or_gap, meeting, with_piece}
use Rattle.changed_texts.specs.Standing.{Replaces}
use Rattle.changed_texts.specs.Replacing.{bytes_at, is_gap, offset_of, replaced}
use Rattle.changed_texts.proofs.Anew.{new_is}
use Rattle.changed_texts.proofs.Cuts.{BeginsBehind, cut_none, piece}
use Rattle.changed_texts.proofs.Cutting.{all_behind, rest, rest_is}
use Rattle.changed_texts.proofs.Found.{Found, found, parted}
use Rattle.changed_texts.proofs.Lists.{all_map}
use Rattle.changed_texts.proofs.Meeting.{all_meet, lines_both}
use Rattle.changed_texts.proofs.Moves.{few_added}
use Rattle.kept_texts.specs.Moving.{IsEndMove, moved_end}
use Rattle.kept_texts.specs.declared.kept.EndMove.{EndMove}

-- ---- the last of some

-- the last of some pieces, piece by piece
abbrev final : List Piece → Option Piece
final [] = None
final (p ∷ []) = Some p
final (p ∷ q ∷ ps) = final (q ∷ ps)

final_is : (ps : List Piece) → last_of ps ≡ final ps
final_is [] = refl
final_is (p ∷ []) = refl
final_is (p ∷ q ∷ ps) =
    let place : length (p ∷ q ∷ ps) - 1 ≡ suc (length (q ∷ ps) - 1) = omega arith in
    ap (λ (k : ℕ). slice_get (p ∷ q ∷ ps) k) place ∙ final_is (q ∷ ps)

final_behind : (p : Piece) (qs : List Piece) → 0 < length qs → final (p ∷ qs) ≡ final qs
final_behind p [] h = absurd (omega (arith, h))
final_behind p (q ∷ qs) h = refl

final_both : (ps qs : List Piece) → 0 < length qs → final (ps ++ qs) ≡ final qs
final_both [] qs h = refl
final_both (p ∷ ps) qs h = final_behind p (ps ++ qs) (omega (arith, h, length-append ps qs)) ∙ final_both ps qs h

final_map : (f : Piece → Piece) (ps : List Piece) → final (map f ps) ≡ option_map f (final ps)
final_map f [] = refl
final_map f (p ∷ []) = refl
final_map f (p ∷ q ∷ ps) = final_map f (q ∷ ps)

final_all : (P : Piece → Type 0) (ps : List Piece) → AllByRecursion P ps → IfSome (final ps) P
final_all P [] h = tt
final_all P (p ∷ []) h = h.0
final_all P (p ∷ q ∷ ps) h = final_all P (q ∷ ps) h.1

-- ---- pieces that meet

with_some : (p : Piece) (qs : List Piece) → 0 < length (with_piece p qs)
with_some p [] = omega arith
with_some p (q ∷ qs) = by (is_gap p.kind && is_gap q.kind)
  where
    by : (t : Bool) → 0 < length (cond t (piece p.at (p.len + q.len) p.line p.kind ∷ qs) (p ∷ q ∷ qs))
    by true = omega arith
    by false = omega arith

met_some : (ps qs : List Piece) → 0 < length qs → 0 < length (meeting ps qs)
met_some [] qs h = h
met_some (p ∷ []) qs h = with_some p qs
met_some (p ∷ q ∷ ps) qs h = omega arith

gap_closed : (text : List ℕ) (p : Piece) → is_gap p.kind ≡ true → is_unclosed text (Some p) ≡ false
gap_closed text p h = by p.kind h
  where
    by : (k : Kind) → is_gap k ≡ true → (is_block k && not (list_any closes_block (lines_of (drop p.at text)))) ≡ false
    by kinds.Gap e = refl
    by kinds.Block e = absurd (false≢true e)
    by kinds.Entry e = absurd (false≢true e)
    by kinds.Head e = absurd (false≢true e)
    by kinds.Stray e = absurd (false≢true e)

both_gaps : (a b : Bool) → (a && b) ≡ true → (a ≡ true) × (b ≡ true)
both_gaps true b h = (refl, h)
both_gaps false b h = absurd (false≢true h)

-- a piece before others leaves the last of them, unless both are gaps, which no block is
unclosed_with : (text : List ℕ) (p : Piece) (qs : List Piece) → 0 < length qs → is_unclosed text (final (with_piece p qs)) ≡ is_unclosed text (final qs)
unclosed_with text p [] h = absurd (omega (arith, h))
unclosed_with text p (q ∷ qs) h = by (is_gap p.kind && is_gap q.kind) (both_gaps (is_gap p.kind) (is_gap q.kind)) qs
  where
    by : (t : Bool) → (t ≡ true → (is_gap p.kind ≡ true) × (is_gap q.kind ≡ true)) → (rs : List Piece)
        → is_unclosed text (final (cond t (piece p.at (p.len + q.len) p.line p.kind ∷ rs) (p ∷ q ∷ rs))) ≡ is_unclosed text (final (q ∷ rs))
    by false f rs = refl
    by true f [] = gap_closed text (piece p.at (p.len + q.len) p.line p.kind) (f refl).0 ∙ sym (gap_closed text q (f refl).1)
    by true f (r ∷ rs) = refl

unclosed_met : (text : List ℕ) (ps qs : List Piece) → 0 < length qs → is_unclosed text (final (meeting ps qs)) ≡ is_unclosed text (final qs)
unclosed_met text [] qs h = refl
unclosed_met text (p ∷ []) qs h = unclosed_with text p qs h
unclosed_met text (p ∷ q ∷ ps) qs h = ap (is_unclosed text) (final_behind p (meeting (q ∷ ps) qs) (met_some (q ∷ ps) qs h)) ∙ unclosed_met text (q ∷ ps) qs h

met_none : (ps : List Piece) → meeting ps [] ≡ ps
met_none [] = refl
met_none (p ∷ []) = refl
met_none (p ∷ q ∷ ps) = ap (λ (rs : List Piece). p ∷ rs) (met_none (q ∷ ps))

-- entries and gaps are no blocks
entry_closed : (text : List ℕ) (p : Piece) → is_entry_or_gap p.kind ≡ true → is_unclosed text (Some p) ≡ false
entry_closed text p h = by p.kind h
  where
    by : (k : Kind) → is_entry_or_gap k ≡ true → (is_block k && not (list_any closes_block (lines_of (drop p.at text)))) ≡ false
    by kinds.Gap e = refl
    by kinds.Entry e = refl
    by kinds.Block e = absurd (false≢true e)
    by kinds.Head e = absurd (false≢true e)
    by kinds.Stray e = absurd (false≢true e)

closed_by : (text : List ℕ) (o : Option Piece) → IfSome o (λ p. is_entry_or_gap p.kind ≡ true) → is_unclosed text o ≡ false
closed_by text None h = refl
closed_by text (Some p) h = entry_closed text p h

shifted_may : (at lines : ℕ) (ps : List Piece) → AllByRecursion (λ (q : Piece). is_entry_or_gap q.kind ≡ true) ps → AllByRecursion (λ (q : Piece). is_entry_or_gap q.kind ≡ true) (map (shifted at lines) ps)
shifted_may at lines [] h = tt
shifted_may at lines (p ∷ ps) h = (h.0, shifted_may at lines ps h.1)

-- ---- the last byte

next_index : (a b : ℕ) → 0 < b → a + b - 1 ≡ a + (b - 1)
next_index a b h = omega (arith, h)

index_behind : (xs ys : List ℕ) (k : ℕ) → slice_index (xs ++ ys) (length xs + k) ≡ slice_index ys k
index_behind [] ys k = ap (slice_index ys) (let none : 0 + k ≡ k = omega arith in none)
index_behind (x ∷ xs) ys k =
    let place : length (x ∷ xs) + k ≡ suc (length xs + k) = omega arith in
    ap (slice_index (x ∷ (xs ++ ys))) place ∙ index_behind xs ys k

-- a text ends as what is behind its front
ends_as : (xs ys : List ℕ) → 0 < length ys → ends_line (xs ++ ys) ≡ ends_line ys
ends_as xs ys h =
    ap (λ (k : ℕ). slice_index (xs ++ ys) k == 10) (ap (λ (n : ℕ). n - 1) (length-append xs ys) ∙ next_index (length xs) (length ys) h)
    ∙ ap (λ (b : ℕ). b == 10) (index_behind xs ys (length ys - 1))

or_true : (b : Bool) → (b || true) ≡ true
or_true true = refl
or_true false = refl

or_false : (b : Bool) → (b || false) ≡ b
or_false true = refl
or_false false = refl

some_ended : (bytes : List ℕ) → ends_line bytes ≡ true → 0 < length bytes
some_ended [] h = absurd (false≢true h)
some_ended (b ∷ bs) h = omega arith

some_lines : (bytes : List ℕ) → 0 < length (lines_of bytes) → 0 < length bytes
some_lines [] h = absurd (omega (arith, h))
some_lines (b ∷ bs) h = omega arith

lines_some : (bytes : List ℕ) → 0 < length bytes → 0 < length (lines_of bytes)
lines_some bytes h = let first = ap length (lines_split bytes h) in omega (arith, first)

some_cut : (ls : List (List ℕ)) → 0 < length ls → 0 < length (cut_from 0 0 1 ls)
some_cut [] h = absurd (omega (arith, h))
some_cut (l ∷ ls) h = omega arith

-- ---- the text

module _ (text bytes : List ℕ) (n : ℕ) (p : Piece) (c : Found text n p) where
  old_lines : length (lines_of text) ≡ length c.pre + suc (length c.own + length c.post)
  old_lines = ap length c.lines ∙ length-append c.pre (c.first ∷ (c.own ++ c.post)) ∙ ap (λ (k : ℕ). length c.pre + suc k) (length-append c.own c.post)

  gone_lines : length (lines_of (bytes_at text p)) ≡ suc (length c.own)
  gone_lines = ap length (parted text n p c).own_lines

  old_size : length text ≡ length (concat c.pre) + (p.len + length (concat c.post))
  old_size =
      ap length (parted text n p c).whole ∙ length-append (concat c.pre) (concat (c.first ∷ c.own) ++ concat c.post)
      ∙ ap (λ (k : ℕ). length (concat c.pre) + k) (length-append (concat (c.first ∷ c.own)) (concat c.post) ∙ ap (λ (k : ℕ). k + length (concat c.post)) (sym c.len_is))

  new_size : length (replaced text p bytes) ≡ length (concat c.pre) + length bytes + length (concat c.post)
  new_size =
      ap length (new_is text n p c bytes) ∙ length-append (concat c.pre ++ bytes) (concat c.post) ∙ ap (λ (k : ℕ). k + length (concat c.post)) (length-append (concat c.pre) bytes)

  pub bytes_are : moved_number (offset_of text p bytes).bytes (length text) ≡ length (replaced text p bytes)
  bytes_are = omega (arith, old_size, new_size)

  pub lines_can : length text + length bytes + 1 < 2 ^ 64 → CanMove (offset_of text p bytes).lines (length (lines_of text))
  lines_can few = record { behind = omega (arith, old_lines, gone_lines); below = omega (arith, few, few_added text, few_added bytes) }

  pub bytes_can : length text + length bytes + 1 < 2 ^ 64 → CanMove (offset_of text p bytes).bytes (length text)
  bytes_can few = record { behind = omega (arith, old_size); below = omega (arith, few) }

  nothing_behind : suc n ≡ length (items_of text) → c.post ≡ []
  nothing_behind e =
      let none : rest text n p c ≡ [] = sym (rest_is text n p c) ∙ drop_all (suc n) (items_of text) (omega (arith, e)) in
      let few = cut_none 0 (p.at + p.len) (p.line + length (c.first ∷ c.own)) c.post none in
      nil_from_length c.post (omega (arith, few))

  some_behind : (suc n ≡ length (items_of text) → ⊥) → 0 < length (rest text n p c)
  some_behind f =
      let few = c.few in
      let count : length (rest text n p c) ≡ length (items_of text) - suc n = ap length (sym (rest_is text n p c)) ∙ length-drop (suc n) (items_of text) in
      elim (cases_lt (suc n) (length (items_of text))) [
        | inl less ↦ omega (arith, less, count)
        | inr most ↦ absurd (f (omega (arith, most, few)))
      ]

  some_post : 0 < length (rest text n p c) → 0 < length (concat c.post)
  some_post h = by c.post refl h
    where
      by : (ls : List (List ℕ)) → c.post ≡ ls → 0 < length (cut_from 0 (p.at + p.len) (p.line + length (c.first ∷ c.own)) ls) → 0 < length (concat c.post)
      by [] e k = absurd (omega (arith, k))
      by (l ∷ ls) e k =
          let size : length (lines_of (concat c.post)) ≡ suc (length ls) = ap length ((parted text n p c).post_lines ∙ e) in
          some_lines (concat c.post) (omega (arith, size))

  abbrev middle : List Piece
  middle = map (shifted p.at (p.line - 1)) (items_of bytes)

  abbrev behind : List Piece
  behind = map (moved_piece (offset_of text p bytes)) (rest text n p c)

  -- the bytes from a piece on are those from where it is moved on
  abbrev Stays : Piece → Type 0
  Stays q = drop (moved_number (offset_of text p bytes).bytes q.at) (replaced text p bytes) ≡ drop q.at text

  stays_by : (q : Piece) (k : ℕ) → q.at ≡ p.at + p.len + k → Stays q
  stays_by q k e =
      let there : moved_number (offset_of text p bytes).bytes q.at ≡ length (concat c.pre ++ bytes) + k = omega (arith, e, c.at_is, length-append (concat c.pre) bytes) in
      (λ i. drop (there i) (new_is text n p c bytes i)) ∙ drop_behind (concat c.pre ++ bytes) (concat c.post) k
      ∙ sym (ap (λ (m : ℕ). drop m text) e ∙ sym (drop-drop k (p.at + p.len) text) ∙ ap (drop k) (parted text n p c).behind)

  stays : (q : Piece) → BeginsBehind (p.at + p.len) (p.line + (offset_of text p bytes).lines.removed) q → Stays q
  stays q h = let at = h.0 in stays_by q (q.at - (p.at + p.len)) (omega (arith, at))

  all_stay_behind : AllByRecursion Stays (rest text n p c)
  all_stay_behind = all_map (BeginsBehind (p.at + p.len) (p.line + (offset_of text p bytes).lines.removed)) Stays stays (rest text n p c) (all_behind text n p c bytes)

  moved_open : (o : Option Piece) → IfSome o Stays → is_unclosed (replaced text p bytes) (option_map (moved_piece (offset_of text p bytes)) o) ≡ is_unclosed text o
  moved_open None h = refl
  moved_open (Some q) h = ap (λ (xs : List ℕ). is_block q.kind && not (list_any closes_block (lines_of xs))) h

module _ (text bytes : List ℕ) (n : ℕ) (p : Piece) (c : Found text n p) (entries : AreEntries bytes) (ends : ends_line bytes ≡ true) where
  new_lines : length (lines_of (replaced text p bytes)) ≡ length c.pre + (length (lines_of bytes) + length c.post)
  new_lines = ap length (lines_both text n p c bytes entries) ∙ length-append c.pre (lines_of bytes ++ c.post) ∙ ap (λ (k : ℕ). length c.pre + k) (length-append (lines_of bytes) c.post)

  pub lines_are : moved_number (offset_of text p bytes).lines (length (lines_of text)) ≡ length (lines_of (replaced text p bytes))
  lines_are = omega (arith, old_lines text bytes n p c, new_lines, gone_lines text bytes n p c)

  -- ---- the entry is the last piece, or others stand behind it

  ended_by : (b : Bool) → (suc n == length (items_of text)) ≡ b → (ends_line text || b) ≡ ends_line (replaced text p bytes)
  ended_by true e =
      let last = nothing_behind text bytes n p c (eqb-true (suc n) (length (items_of text)) e) in
      or_true (ends_line text) ∙ sym ends
      ∙ sym (ends_as (concat c.pre) bytes (some_ended bytes ends))
      ∙ ap ends_line (sym (append-nil (concat c.pre ++ bytes)) ∙ ap (λ (ls : List (List ℕ)). (concat c.pre ++ bytes) ++ concat ls) (sym last))
      ∙ sym (ap ends_line (new_is text n p c bytes))
  ended_by false e =
      let some = some_post text bytes n p c (some_behind text bytes n p c (eqb-false (suc n) (length (items_of text)) e)) in
      or_false (ends_line text)
      ∙ ap ends_line ((parted text n p c).whole ∙ sym (append_assoc (concat c.pre) (concat (c.first ∷ c.own)) (concat c.post)))
      ∙ ends_as (concat c.pre ++ concat (c.first ∷ c.own)) (concat c.post) some
      ∙ sym (ends_as (concat c.pre ++ bytes) (concat c.post) some)
      ∙ sym (ap ends_line (new_is text n p c bytes))

  pub ended_is : (ends_line text || (suc n == length (items_of text))) ≡ ends_line (replaced text p bytes)
  ended_is = ended_by (suc n == length (items_of text)) refl

  -- ---- a block without its end

  pieces_now : items_of (replaced text p bytes) ≡ meeting (take n (items_of text)) (meeting (middle text bytes n p c) (behind text bytes n p c))
  pieces_now = all_meet text n p c bytes entries

  some_bytes : 0 < length (middle text bytes n p c)
  some_bytes = let some = some_cut (lines_of bytes) (lines_some bytes (some_ended bytes ends)) in omega (arith, some, length-map (items_of bytes) (shifted p.at (p.line - 1)))

  open_by : (b : Bool) → (suc n == length (items_of text)) ≡ b → is_unclosed text (final (items_of text)) ≡ is_unclosed (replaced text p bytes) (final (items_of (replaced text p bytes)))
  open_by true e =
      let last = nothing_behind text bytes n p c (eqb-true (suc n) (length (items_of text)) e) in
      let none : behind text bytes n p c ≡ [] = ap (λ (ls : List (List ℕ)). map (moved_piece (offset_of text p bytes)) (cut_from 0 (p.at + p.len) (p.line + length (c.first ∷ c.own)) ls)) last in
      let old : items_of text ≡ take n (items_of text) ++ p ∷ [] = c.old ∙ ap (λ (ls : List (List ℕ)). take n (items_of text) ++ p ∷ cut_from 0 (p.at + p.len) (p.line + length (c.first ∷ c.own)) ls) last in
      let entry : is_entry_or_gap p.kind ≡ true = ap is_entry_or_gap (c.kind_is ∙ c.is_entry) in
      let now : items_of (replaced text p bytes) ≡ meeting (take n (items_of text)) (middle text bytes n p c) = pieces_now ∙ ap (λ (qs : List Piece). meeting (take n (items_of text)) (meeting (middle text bytes n p c) qs)) none ∙ ap (meeting (take n (items_of text))) (met_none (middle text bytes n p c)) in
      ap (λ (ps : List Piece). is_unclosed text (final ps)) old
      ∙ ap (is_unclosed text) (final_both (take n (items_of text)) (p ∷ []) (omega arith))
      ∙ entry_closed text p entry
      ∙ sym (closed_by (replaced text p bytes) (final (middle text bytes n p c)) (final_all (λ (q : Piece). is_entry_or_gap q.kind ≡ true) (middle text bytes n p c) (shifted_may p.at (p.line - 1) (items_of bytes) entries.kinds)))
      ∙ sym (unclosed_met (replaced text p bytes) (take n (items_of text)) (middle text bytes n p c) some_bytes)
      ∙ sym (ap (λ (ps : List Piece). is_unclosed (replaced text p bytes) (final ps)) now)
  open_by false e =
      let some = some_behind text bytes n p c (eqb-false (suc n) (length (items_of text)) e) in
      let many : 0 < length (behind text bytes n p c) = omega (arith, some, length-map (rest text n p c) (moved_piece (offset_of text p bytes))) in
      ap (λ (ps : List Piece). is_unclosed text (final ps)) c.old
      ∙ ap (is_unclosed text) (final_both (take n (items_of text)) (p ∷ rest text n p c) (omega arith) ∙ final_behind p (rest text n p c) some)
      ∙ sym (moved_open text bytes n p c (final (rest text n p c)) (final_all (Stays text bytes n p c) (rest text n p c) (all_stay_behind text bytes n p c)))
      ∙ sym (ap (is_unclosed (replaced text p bytes)) (final_map (moved_piece (offset_of text p bytes)) (rest text n p c)))
      ∙ sym (unclosed_met (replaced text p bytes) (middle text bytes n p c) (behind text bytes n p c) many)
      ∙ sym (unclosed_met (replaced text p bytes) (take n (items_of text)) (meeting (middle text bytes n p c) (behind text bytes n p c)) (met_some (middle text bytes n p c) (behind text bytes n p c) many))
      ∙ sym (ap (λ (ps : List Piece). is_unclosed (replaced text p bytes) (final ps)) pieces_now)

  pub unclosed_is : is_unclosed text (last_of (items_of text)) ≡ is_unclosed (replaced text p bytes) (last_of (items_of (replaced text p bytes)))
  unclosed_is =
      ap (is_unclosed text) (final_is (items_of text)) ∙ open_by (suc n == length (items_of text)) refl
      ∙ sym (ap (is_unclosed (replaced text p bytes)) (final_is (items_of (replaced text p bytes))))

-- ---- all that is kept of it

pub end_is : (year : Option ℕ) (text bytes : List ℕ) (items after : List Placed) (n : ℕ) (p : Piece) (to : EndMove) (end : KeptEnd) → Replaces year text items n p bytes after → IsEndMove text n p bytes to → end ≡ end_of year text items
    → moved_end to end ≡ end_of year (replaced text p bytes) after
end_is year text bytes items after n p to end r m kept =
    let c = found text n p r.of in
    ap (moved_end to) kept
    ∙ (λ i. record {
      last = m.last i;
      ended = (ap (λ (b : Bool). ends_line text || b) m.was_last ∙ ended_is text bytes n p c r.entries r.ends) i;
      unclosed = unclosed_is text bytes n p c r.entries r.ends i;
      lines = (ap (λ (by : Offset). moved_number by.lines (length (lines_of text))) m.by ∙ lines_are text bytes n p c r.entries r.ends) i;
      bytes = (ap (λ (by : Offset). moved_number by.bytes (length text)) m.by ∙ bytes_are text bytes n p c) i;
      context = sym r.context i;
    })
