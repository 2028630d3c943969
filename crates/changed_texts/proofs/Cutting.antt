-- The pieces of a text in which other bytes stand in the place of an entry.
use Rattle.std.proofs.Common.{ℕ, suc, ◌≡◌, ◌+◌, List, [], ◌∷◌, ◌++◌, length, take, drop, map, refl, sym, ap, subst, ◌∙◌, arith, append_assoc}
use Rattle.std.specs.List.{concat, AllByRecursion}
use Rattle.std.proofs.lemmas.List.{length-take-le}
use Rattle.hl_base.specs.Items.{cut_from, items_of, kind_of}
use Rattle.hl_base.specs.Lines.{lines_of}
use Rattle.hl_base.specs.declared.items.Piece.{Piece}
use Rattle.moved_lines.specs.Moving.{moved_number, moved_piece}
use Rattle.moved_lines.specs.declared.shift.Offset.{Offset}
use Rattle.text_ends.proofs.Lining.{concat_lines, ends_with_line, lines_front}
use Rattle.changed_texts.specs.Replacing.{IsEntry, changed_pieces, entry_alone, left_pieces, offset_of, piece_of, replaced}
use Rattle.changed_texts.proofs.Cuts.{BeginsBehind, Stops, anew_stops, cut_behind, cut_moved, cut_one, entry_begins, entry_takes, kind_before, piece}
use Rattle.changed_texts.proofs.Found.{Alone, Found, alone, behind_number, parted}
use Rattle.changed_texts.proofs.Lines.{front_lines}

module _ (text : List ℕ) (n : ℕ) (p : Piece) (c : Found text n p) where
  -- the pieces behind the entry
  abbrev pub rest : List Piece
  rest = cut_from 0 (p.at + p.len) (p.line + length (c.first ∷ c.own)) c.post

  pub rest_is : drop (suc n) (items_of text) ≡ rest
  rest_is =
      let number : length (take n (items_of text)) ≡ n = length-take-le n (items_of text) (omega (arith, c.few)) in
      let zs = take n (items_of text) in
      (λ i. drop (suc (sym number i)) (c.old i)) ∙ behind_number zs p rest

module _ (text : List ℕ) (n : ℕ) (p : Piece) (c : Found text n p) (bytes : List ℕ) where
  abbrev by : Offset
  by = offset_of text p bytes

  -- so many lines are taken away
  removed_lines : by.lines.removed ≡ length (c.first ∷ c.own)
  removed_lines = ap length (parted text n p c).own_lines

  -- what is behind begins behind all that is taken away
  pub all_behind : AllByRecursion (BeginsBehind (p.at + p.len) (p.line + by.lines.removed)) (rest text n p c)
  all_behind =
      subst (λ (m : ℕ). AllByRecursion (BeginsBehind (p.at + p.len) (p.line + m)) (rest text n p c)) (sym removed_lines)
      (cut_behind 0 (p.at + p.len) (p.line + length (c.first ∷ c.own)) (p.at + p.len) (p.line + length (c.first ∷ c.own)) c.post (omega arith) (omega arith))

  moved_bytes : (len : ℕ) → length bytes ≡ len → p.at + len ≡ moved_number by.bytes (p.at + p.len)
  moved_bytes len e = omega (arith, e)

  lines_moved : (removed added : ℕ) → by.lines.removed ≡ removed → by.lines.added ≡ added → p.line + added ≡ moved_number by.lines (p.line + removed)
  lines_moved removed added e f = omega (arith, e, f)

  pub rest_moved : (len count : ℕ) → length bytes ≡ len → length (lines_of bytes) ≡ count → cut_from 0 (p.at + len) (p.line + count) c.post ≡ map (moved_piece by) (rest text n p c)
  rest_moved len count e f =
      let at = moved_bytes len e in
      let line = lines_moved (length (c.first ∷ c.own)) count removed_lines f in
      (λ i. cut_from 0 (at i) (line i) c.post)
      ∙ cut_moved by 0 (p.at + p.len) (p.line + length (c.first ∷ c.own)) c.post (omega arith) (omega (arith, removed_lines))

  -- the text by lines, where other bytes stand in the place of the entry
  pub front_now : (more : List (List ℕ)) → lines_of (bytes ++ concat c.post) ≡ more → lines_of (replaced text p bytes) ≡ c.pre ++ more
  front_now more e =
      let parts = parted text n p c in
      (λ i. lines_of ((parts.before i ++ bytes) ++ parts.behind i))
      ∙ ap lines_of (append_assoc (concat c.pre) bytes (concat c.post))
      ∙ front_lines c.pre c.first (c.own ++ c.post) parts.are (bytes ++ concat c.post)
      ∙ ap (λ (ls : List (List ℕ)). c.pre ++ ls) e

module _ (text : List ℕ) (n : ℕ) (p : Piece) (c : Found text n p) (bytes : List ℕ) (entry : IsEntry bytes) where
  lines_now : (a : Alone bytes) → lines_of (replaced text p bytes) ≡ c.pre ++ a.first ∷ (a.own ++ c.post)
  lines_now a =
      front_now text n p c bytes (a.first ∷ (a.own ++ c.post))
      (lines_front bytes (concat c.post) (ends_with_line bytes entry.ends) ∙ (λ i. a.lines i ++ (parted text n p c).post_lines i))

  cut_by : (a : Alone bytes) → items_of (replaced text p bytes) ≡ changed_pieces text n p bytes
  cut_by a =
      let front = take n (items_of text) in
      let takes = entry_takes a.first a.own c.own c.post (entry_alone bytes) a.is_entry a.cut c.takes in
      let len : length (concat (a.first ∷ a.own)) ≡ length bytes = ap length (ap concat (sym a.lines) ∙ concat_lines bytes) in
      let kind : kind_of a.first ≡ p.kind = a.is_entry ∙ sym c.is_entry ∙ sym c.kind_is in
      let moved = rest_moved text n p c bytes (length (concat (a.first ∷ a.own))) (length (a.first ∷ a.own)) (sym len) (ap length a.lines) in
      ap (cut_from 0 0 1) (lines_now a)
      ∙ c.front (a.first ∷ (a.own ++ c.post)) (anew_stops (kind_before n (items_of text)) a.first (a.own ++ c.post) (entry_begins a.first a.is_entry))
      ∙ ap (λ (ps : List Piece). front ++ ps) (cut_one a.first a.own c.post p.at p.line takes)
      ∙ (λ i. front ++ piece p.at (len i) p.line (kind i) ∷ moved i)
      ∙ ap (λ (ps : List Piece). front ++ piece_of p bytes ∷ map (moved_piece (offset_of text p bytes)) ps) (sym (rest_is text n p c))

  pub cut_anew : items_of (replaced text p bytes) ≡ changed_pieces text n p bytes
  cut_anew = cut_by (alone bytes entry)

-- ---- an entry that is taken away

module _ (text : List ℕ) (n : ℕ) (p : Piece) (c : Found text n p) where
  -- what is behind it doesn't go on with what is before it
  pub cut_gone : Stops (kind_before n (items_of text)) c.post → items_of (replaced text p []) ≡ left_pieces text n p
  cut_gone stops =
      let front = take n (items_of text) in
      let none : p.at ≡ p.at + 0 = omega arith in
      let last : p.line ≡ p.line + 0 = omega arith in
      ap (cut_from 0 0 1) (front_now text n p c [] c.post (parted text n p c).post_lines)
      ∙ c.front c.post stops
      ∙ (λ i. front ++ cut_from 0 (none i) (last i) c.post)
      ∙ ap (λ (ps : List Piece). front ++ ps) (rest_moved text n p c [] 0 0 refl refl)
      ∙ ap (λ (ps : List Piece). front ++ map (moved_piece (offset_of text p [])) ps) (sym (rest_is text n p c))
