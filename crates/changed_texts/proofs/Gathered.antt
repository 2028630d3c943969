-- What a text says in which any entries and gaps stand in the place of an entry.
use Rattle.std.proofs.Common.{ℕ, ◌≡◌, ◌+◌, ◌-◌, true, List, [], ◌∷◌, ◌++◌, length, take, drop, map, Option, Ok, refl, sym, ap, subst, ◌∙◌, arith, append_assoc, append-nil}
use Rattle.std.specs.List.{concat, AllByRecursion}
use Rattle.std.proofs.Math.Seq.{drop-append_seam}
use Rattle.hl_base.specs.Items.{cut_from, items_of}
use Rattle.hl_base.specs.Lines.{lines_of}
use Rattle.hl_base.specs.declared.items.Piece.{Piece}
use Rattle.book.specs.declared.item.Placed.{Placed}
use Rattle.journal_reader.specs.Items.{items_in, reading_from}
use Rattle.moved_lines.specs.Moving.{moved_piece, moved_placed}
use Rattle.moved_lines.specs.declared.shift.Offset.{Offset}
use Rattle.text_ends.specs.Growth.{shifted}
use Rattle.text_ends.specs.Ends.{items_at}
use Rattle.text_ends.proofs.Lining.{concat_lines}
use Rattle.text_ends.proofs.Stepping.{Ends, front_bytes}
use Rattle.changed_texts.proofs.Joining.{within_text}
use Rattle.changed_texts.proofs.Lists.{all_map}
use Rattle.text_ends.proofs.Saying.{drop_behind}
use Rattle.changed_texts.specs.Meeting.{AreEntries, further_on, is_entry_or_gap, meeting, meeting_items, met_items, said_behind}
use Rattle.changed_texts.specs.Replacing.{IsEntryOf, offset_of, replaced}
use Rattle.changed_texts.proofs.Anew.{Told, all_stay, before_is, later_anew, later_is, new_is, old_none, told}
use Rattle.changed_texts.proofs.Cutting.{rest, rest_moved}
use Rattle.changed_texts.proofs.Found.{Found, found}
use Rattle.changed_texts.proofs.Joined.{Follows, IsOfKind, all_follow_on, all_of_kind, follows_along, further_read, meeting_read, none_said, read_bytes}
use Rattle.changed_texts.proofs.Lines.{AreLines, are_lines, back_lines, concat_both, front_are}
use Rattle.changed_texts.proofs.Meeting.{all_meet, front_pieces, inner_is, lines_both, own_pieces}
use Rattle.changed_texts.proofs.Reading.{SayAlike, same_said}

all_shifted : (at lines : ℕ) (ps : List Piece) → AllByRecursion (λ (q : Piece). is_entry_or_gap q.kind ≡ true) ps → AllByRecursion (λ (q : Piece). is_entry_or_gap q.kind ≡ true) (map (shifted at lines) ps)
all_shifted at lines [] all = tt
all_shifted at lines (p ∷ ps) all = (all.0, all_shifted at lines ps all.1)

nothing_more : (a : ℕ) → a + 0 ≡ a
nothing_more a = omega arith

-- ---- where the bytes stand

module _ (text : List ℕ) (n : ℕ) (p : Piece) (c : Found text n p) (bytes : List ℕ) (entries : AreEntries bytes) where
  abbrev new : List ℕ
  new = replaced text p bytes

  abbrev by : Offset
  by = offset_of text p bytes

  abbrev mid : List Piece
  mid = map (shifted p.at (p.line - 1)) (items_of bytes)

  abbrev behind : List Piece
  behind = map (moved_piece (offset_of text p bytes)) (rest text n p c)

  abbrev size : ℕ
  size = length (concat (lines_of bytes))

  whole : replaced text p bytes ≡ concat c.pre ++ (bytes ++ concat c.post)
  whole = new_is text n p c bytes ∙ append_assoc (concat c.pre) bytes (concat c.post)

  from_bytes : drop p.at (replaced text p bytes) ≡ bytes ++ concat c.post
  from_bytes = (λ i. drop (c.at_is i) (whole i)) ∙ drop-append_seam (concat c.pre) (bytes ++ concat c.post)

  from_behind : drop (p.at + length (concat (lines_of bytes))) (replaced text p bytes) ≡ concat c.post
  from_behind =
      (λ i. drop (c.at_is i + length (concat_lines bytes i)) (whole i))
      ∙ drop_behind (concat c.pre) (bytes ++ concat c.post) (length bytes) ∙ drop-append_seam bytes (concat c.post)

  are : AreLines (c.pre ++ (lines_of bytes ++ c.post))
  are = subst AreLines (lines_both text n p c bytes entries) (are_lines (replaced text p bytes))

  are_inner : AreLines (lines_of bytes ++ c.post)
  are_inner = back_lines c.pre (lines_of bytes ++ c.post) are

  there : (q : Piece) → Ends (length bytes) q → take q.len (drop (p.at + q.at) (replaced text p bytes)) ≡ take q.len (drop (0 + q.at) bytes)
  there q ends =
      let same : q.at ≡ 0 + q.at = omega arith in
      ap (take q.len) ((λ i. drop (c.at_is i + q.at) (whole i)) ∙ drop_behind (concat c.pre) (bytes ++ concat c.post) q.at)
      ∙ front_bytes bytes (concat c.post) q ends
      ∙ ap (λ (a : ℕ). take q.len (drop a bytes)) same

  pub all_there : AllByRecursion (λ (q : Piece). take q.len (drop (p.at + q.at) (replaced text p bytes)) ≡ take q.len (drop (0 + q.at) bytes)) (items_of bytes)
  all_there = all_map (Ends (length bytes)) (λ (q : Piece). take q.len (drop (p.at + q.at) (replaced text p bytes)) ≡ take q.len (drop (0 + q.at) bytes)) there (items_of bytes) (within_text bytes)

  -- ---- pieces of their kinds

  pub kinds_front : AllByRecursion (IsOfKind (replaced text p bytes)) (take n (items_of text))
  kinds_front =
      subst (AllByRecursion (IsOfKind (replaced text p bytes))) (front_pieces text n p c)
      (all_of_kind (replaced text p bytes) 0 0 1 c.pre (bytes ++ concat c.post) (front_are c.pre (lines_of bytes ++ c.post) are) whole)

  pub kinds_mid : AllByRecursion (IsOfKind (replaced text p bytes)) mid
  kinds_mid =
      subst (AllByRecursion (IsOfKind (replaced text p bytes))) (own_pieces text n p c bytes entries)
      (all_of_kind (replaced text p bytes) 0 p.at p.line (lines_of bytes) (concat c.post) (are_lines bytes) (from_bytes ∙ ap (λ (xs : List ℕ). xs ++ concat c.post) (sym (concat_lines bytes))))

  behind_is : cut_from 0 (p.at + size) (p.line + length (lines_of bytes)) c.post ≡ behind
  behind_is = rest_moved text n p c bytes (length (concat (lines_of bytes))) (length (lines_of bytes)) (sym (ap length (concat_lines bytes))) refl

  pub kinds_behind : AllByRecursion (IsOfKind (replaced text p bytes)) behind
  kinds_behind =
      subst (AllByRecursion (IsOfKind (replaced text p bytes))) behind_is
      (all_of_kind (replaced text p bytes) 0 (p.at + size) (p.line + length (lines_of bytes)) c.post [] (back_lines (lines_of bytes) c.post are_inner) (from_behind ∙ sym (append-nil (concat c.post))))

  pub kinds_inner : AllByRecursion (IsOfKind (replaced text p bytes)) (meeting mid behind)
  kinds_inner =
      subst (AllByRecursion (IsOfKind (replaced text p bytes))) (inner_is text n p c bytes entries)
      (all_of_kind (replaced text p bytes) 0 p.at p.line (lines_of bytes ++ c.post) [] are_inner
      (from_bytes ∙ ap (λ (xs : List ℕ). xs ++ concat c.post) (sym (concat_lines bytes)) ∙ sym (concat_both (lines_of bytes) c.post) ∙ sym (append-nil (concat (lines_of bytes ++ c.post)))))

  pub kinds_all : AllByRecursion (IsOfKind (replaced text p bytes)) (meeting (take n (items_of text)) (meeting mid behind))
  kinds_all =
      subst (AllByRecursion (IsOfKind (replaced text p bytes))) (all_meet text n p c bytes entries)
      (all_of_kind (replaced text p bytes) 0 0 1 (lines_of (replaced text p bytes)) [] (are_lines (replaced text p bytes))
      (sym (concat_lines (replaced text p bytes)) ∙ sym (append-nil (concat (lines_of (replaced text p bytes))))))

  -- ---- pieces that follow one another

  pub follow_front : Follows (0 + 0) p.at (take n (items_of text))
  follow_front =
      let end : 0 + length (concat c.pre) ≡ p.at = omega (arith, c.at_is) in
      subst (Follows (0 + 0) p.at) (front_pieces text n p c) (follows_along (0 + 0) (0 + length (concat c.pre)) (0 + 0) p.at (cut_from 0 0 1 c.pre) refl end (all_follow_on 0 0 1 c.pre (omega arith)))

  pub follow_mid : Follows p.at (p.at + size) mid
  follow_mid =
      subst (Follows p.at (p.at + size)) (own_pieces text n p c bytes entries)
      (follows_along (p.at + 0) (p.at + size) p.at (p.at + size) (cut_from 0 p.at p.line (lines_of bytes)) (nothing_more p.at) refl (all_follow_on 0 p.at p.line (lines_of bytes) (omega arith)))

  pub follow_behind : Follows (p.at + size) (p.at + size + length (concat c.post)) behind
  follow_behind =
      subst (Follows (p.at + size) (p.at + size + length (concat c.post))) behind_is
      (follows_along (p.at + size + 0) (p.at + size + length (concat c.post)) (p.at + size) (p.at + size + length (concat c.post)) (cut_from 0 (p.at + size) (p.line + length (lines_of bytes)) c.post) (nothing_more (p.at + size)) refl
      (all_follow_on 0 (p.at + size) (p.line + length (lines_of bytes)) c.post (omega arith)))

  pub follow_inner : Follows p.at (p.at + length (concat (lines_of bytes ++ c.post))) (meeting mid behind)
  follow_inner =
      subst (Follows p.at (p.at + length (concat (lines_of bytes ++ c.post)))) (inner_is text n p c bytes entries)
      (follows_along (p.at + 0) (p.at + length (concat (lines_of bytes ++ c.post))) p.at (p.at + length (concat (lines_of bytes ++ c.post))) (cut_from 0 p.at p.line (lines_of bytes ++ c.post)) (nothing_more p.at) refl
      (all_follow_on 0 p.at p.line (lines_of bytes ++ c.post) (omega arith)))

-- ---- what they say

gathered : (year : Option ℕ) (text bytes : List ℕ) (items : List Placed) (n : ℕ) (p : Piece) (c : Found text n p) (t : Told year text items n p c) → AreEntries bytes → (said : List Placed)
    → said_behind year (items_at (take n items)) (p.line - 1) bytes ≡ Ok said → items_in year (replaced text p bytes) ≡ Ok (met_items text items n p bytes said)
gathered year text bytes items n p c t entries said h =
    let new = replaced text p bytes in
    let by = offset_of text p bytes in
    let is = items_at t.before in
    let ps = take n (items_of text) in
    let mid = map (shifted p.at (p.line - 1)) (items_of bytes) in
    let behind = map (moved_piece by) (rest text n p c) in
    let ms = map (further_on p.at) said in
    let later = map (moved_placed by) t.later in
    let size = length (concat (lines_of bytes)) in
    let front_read : reading_from year [] new ps ≡ Ok t.before = read_bytes year [] text new ps (all_stay text n p c bytes) ∙ t.before_read in
    let own : reading_from year is bytes (map (shifted 0 (p.line - 1)) (items_of bytes)) ≡ Ok said =
    sym (ap (λ (xs : List Placed). reading_from year (items_at xs) bytes (map (shifted 0 (p.line - 1)) (items_of bytes))) (before_is year text items n p c t)) ∙ h in
    let mid_read : reading_from year is new mid ≡ Ok ms = further_read year is bytes new p.at (p.line - 1) (items_of bytes) said (all_there text n p c bytes entries) own in
    let alike : SayAlike (is ++ t.old ∷ []) (is ++ items_at ms) =
    none_said year is new mid ms (kinds_mid text n p c bytes entries) (all_shifted p.at (p.line - 1) (items_of bytes) entries.kinds) mid_read ∙ sym (same_said is t.old (old_none year text items n p c t)) in
    let rest_read : reading_from year (is ++ items_at ms) new behind ≡ Ok later = later_anew year text items n p c t bytes (is ++ items_at ms) alike in
    let inner_read : reading_from year is new (meeting mid behind) ≡ Ok (meeting_items ms later) =
    meeting_read year is new mid behind ms later p.at (p.at + size) (p.at + size + length (concat c.post)) mid_read rest_read (follow_mid text n p c bytes entries) (follow_behind text n p c bytes entries) (kinds_mid text n p c bytes entries)
    (kinds_behind text n p c bytes entries) (kinds_inner text n p c bytes entries) in
    let all_read : reading_from year [] new (meeting ps (meeting mid behind)) ≡ Ok (meeting_items t.before (meeting_items ms later)) =
    meeting_read year [] new ps (meeting mid behind) t.before (meeting_items ms later) (0 + 0) p.at (p.at + length (concat (lines_of bytes ++ c.post))) front_read inner_read (follow_front text n p c bytes entries) (follow_inner text n p c bytes entries)
    (kinds_front text n p c bytes entries) (kinds_inner text n p c bytes entries) (kinds_all text n p c bytes entries) in
    ap (reading_from year [] new) (all_meet text n p c bytes entries)
    ∙ all_read
    ∙ (λ k. Ok (meeting_items (sym (before_is year text items n p c t) k) (meeting_items ms (map (moved_placed by) (sym (later_is year text items n p c t) k)))))

pub gathered_is : (year : Option ℕ) (text bytes : List ℕ) (items : List Placed) (n : ℕ) (p : Piece) → IsEntryOf text n p → AreEntries bytes → items_in year text ≡ Ok items → (said : List Placed)
    → said_behind year (items_at (take n items)) (p.line - 1) bytes ≡ Ok said → items_in year (replaced text p bytes) ≡ Ok (met_items text items n p bytes said)
gathered_is year text bytes items n p of entries read said h =
    let c = found text n p of in
    gathered year text bytes items n p c (told year text items n p c read) entries said h
