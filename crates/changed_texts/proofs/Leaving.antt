-- Where an entry is taken away, the pieces around it stay as they are unless both are gaps.
use Rattle.std.proofs.Common.{ℕ, zero, suc, ◌≡◌, ◌+◌, Bool, true, false, cond, ◌==◌, ◌&&◌, List, [], ◌∷◌, ◌++◌, length, drop, Option, Some, None, refl, sym, ap, ◌∙◌}
use Rattle.std.specs.Prelude.{option_map}
use Rattle.std.specs.List.{prefix_len, slice_get}
use Rattle.std.proofs.lemmas.Bool.{eqb-true, false≢true}
use Rattle.std.proofs.lemmas.List.Folds.{length-prefix_len}
use Rattle.hl_base.specs.Items.{begins_entry, cut_from, is_indented, is_remark, items_of, kind_of, opens_block}
use Rattle.hl_base.specs.declared.items.Kind.{Kind}
use Rattle.hl_base.specs.declared.items.Kind.TheVariants as kinds
use Rattle.hl_base.specs.declared.items.Piece.{Piece}
use Rattle.entry_reader.proofs.Both.{both_true}
use Rattle.changed_texts.specs.Replacing.{IsEntryOf, is_between_gaps, is_gap, is_gap_at, is_gap_in, left_pieces, replaced}
use Rattle.changed_texts.proofs.Cuts.{Stops, kind_before, next_stops, none_first}
use Rattle.changed_texts.proofs.Cutting.{cut_gone, rest_is}
use Rattle.changed_texts.proofs.Found.{Found, found}

-- ---- the line behind it

-- a line that opens a comment block is no remark
pub opens_no_remark : (y : List ℕ) → opens_block y ≡ true → is_remark y ≡ false
opens_no_remark [] h = absurd (false≢true h)
opens_no_remark (b ∷ bs) h =
    let begins = both_true _ _ h in
    let letter = both_true (99 == b) _ begins.0 in
    ap (λ (c : ℕ). is_remark (c ∷ bs)) (sym (eqb-true 99 b letter.0))

by_remark : (a b c d : Bool) → (a ≡ true → b ≡ false) → is_gap (cond a kinds.Block (cond b kinds.Gap (cond c kinds.Stray (cond d kinds.Entry kinds.Head)))) ≡ false → b ≡ false
by_remark true b c d f h = f refl
by_remark false true c d f h = absurd (false≢true (sym h))
by_remark false false c d f h = refl

-- one that begins no gap is no remark
no_remark : (y : List ℕ) → is_gap (kind_of y) ≡ false → is_remark y ≡ false
no_remark y h = by_remark (opens_block y) (is_remark y) (is_indented y) (begins_entry y) (opens_no_remark y) h

get_drop : (n : ℕ) (xs : List Piece) (q : Piece) (qs : List Piece) → drop n xs ≡ q ∷ qs → slice_get xs n ≡ Some q
get_drop zero xs q qs h = ap (λ (ys : List Piece). slice_get ys 0) h
get_drop (suc n) [] q qs h = ap (λ (ys : List Piece). slice_get ys 0) h
get_drop (suc n) (x ∷ xs) q qs h = get_drop n xs q qs h

module _ (text : List ℕ) (n : ℕ) (p : Piece) (c : Found text n p) where
  next_by : (ys : List (List ℕ)) → c.post ≡ ys → is_gap_at (suc n) (items_of text) ≡ false → prefix_len is_remark ys ≡ 0
  next_by [] e h = refl
  next_by (y ∷ ys) e h =
      let behind = rest_is text n p c ∙ ap (λ (ls : List (List ℕ)). cut_from 0 (p.at + p.len) (p.line + length (c.first ∷ c.own)) ls) e in
      none_first is_remark y ys (no_remark y (sym (ap is_gap_in (get_drop (suc n) (items_of text) _ _ behind)) ∙ h))

  pub none_indented : prefix_len is_indented c.post ≡ 0
  none_indented = next_stops is_indented c.own c.post (sym (length-prefix_len is_indented (c.own ++ c.post)) ∙ c.takes)

  stops_by : (k : Kind) → (is_gap k && is_gap_at (suc n) (items_of text)) ≡ false → Stops (Some k) c.post
  stops_by kinds.Gap h = next_by c.post refl h
  stops_by kinds.Block h = tt
  stops_by kinds.Entry h = none_indented
  stops_by kinds.Head h = none_indented
  stops_by kinds.Stray h = none_indented

  stops_behind : (before : Option Piece) → (is_gap_in before && is_gap_at (suc n) (items_of text)) ≡ false → Stops (option_map (λ (q : Piece). q.kind) before) c.post
  stops_behind None h = tt
  stops_behind (Some q) h = stops_by q.kind h

stops : (n : ℕ) (text : List ℕ) (p : Piece) (c : Found text n p) → is_between_gaps n (items_of text) ≡ false → Stops (kind_before n (items_of text)) c.post
stops zero text p c h = tt
stops (suc m) text p c h = stops_behind text (suc m) p c (slice_get (items_of text) m) h

pub cut_gone_is : (text : List ℕ) (n : ℕ) (p : Piece) → IsEntryOf text n p → is_between_gaps n (items_of text) ≡ false → items_of (replaced text p []) ≡ left_pieces text n p
cut_gone_is text n p of apart = let c = found text n p of in cut_gone text n p c (stops n text p c apart)
