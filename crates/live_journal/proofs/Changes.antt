-- The change that an edit is makes the text that the edit makes.
use Rattle.std.proofs.Common.{◌≡◌, ℕ, zero, suc, ◌+◌, ◌-◌, ◌<◌, ◌≤◌, ◌==◌, Bool, true, false, cond, List, [], ◌∷◌, ◌++◌, length, take, drop, get_or, Option, Some, None, refl, sym, ap, subst, ◌∙◌, arith}
use Rattle.std.specs.Prelude.{IfSome, slice_get}
use Rattle.std.specs.List.{AllByRecursion}
use Rattle.std.proofs.lemmas.Grind.{common_steps}
use Rattle.hl_base.specs.Items.{items_of}
use Rattle.hl_base.specs.declared.items.Piece.{Piece}
use Rattle.hl_base.specs.declared.change.Splice.{Splice}
use Rattle.book.specs.declared.item.Placed.{Placed}
use Rattle.text_ends.proofs.Stepping.{Ends}
use Rattle.loaded_texts.specs.Keeping.{pieces_at}
use Rattle.loaded_texts.proofs.Pieces.{ends_in}
use Rattle.live_journal.specs.declared.edit.Edit.{Edit}
use Rattle.live_journal.specs.declared.edit.Edit.TheVariants.{Add, Change, Replace}
use Rattle.live_journal.specs.Edits.{added, applied, ended, numbered, replaced, replacing, splice_of, spliced}

at_end : (text bytes : List ℕ) → take (length text) text ++ bytes ++ drop (length text + 0) text ≡ text ++ bytes
at_end text bytes = grind (arith, common_steps)

in_place : (text : List ℕ) (piece : Option Piece) (bytes : List ℕ) → spliced text (replacing piece bytes) ≡ replaced text piece bytes
in_place text None bytes = grind (arith, common_steps)
in_place text (Some piece) bytes = refl

whole : (text bytes : List ℕ) → take 0 text ++ bytes ++ drop (0 + length text) text ≡ bytes
whole text bytes = grind (arith, common_steps)

pub made : (text : List ℕ) (edit : Edit) → spliced text (splice_of text edit) ≡ applied text edit
made text (Add entry) = at_end text (added text entry)
made text (Change base item entry) = in_place text (numbered (items_of text) item) (ended entry)
made text (Replace base new) = whole text new

-- ---- the piece that an edit names

pub got_piece : (items : List Placed) (at : ℕ) (d : Placed) → at < length items → Some (get_or items at d).piece ≡ slice_get (pieces_at items) at
got_piece [] at d h = absurd (omega (arith, h))
got_piece (p ∷ ps) zero d h = refl
got_piece (p ∷ ps) (suc at) d h = got_piece ps at d (omega (arith, h))

pub no_piece : (items : List Placed) (at : ℕ) → length items ≤ at → None ≡ slice_get (pieces_at items) at
no_piece [] at h = refl
no_piece (p ∷ ps) zero h = absurd (omega (arith, h))
no_piece (p ∷ ps) (suc at) h = no_piece ps at (omega (arith, h))

ends_at : (most : ℕ) (ps : List Piece) (at : ℕ) → AllByRecursion (Ends most) ps → IfSome (slice_get ps at) (Ends most)
ends_at most [] at h = tt
ends_at most (p ∷ ps) zero h = h.0
ends_at most (p ∷ ps) (suc at) h = ends_at most ps at h.1

ends_numbered : (most n : ℕ) (ps : List Piece) → AllByRecursion (Ends most) ps → IfSome (numbered ps n) (Ends most)
ends_numbered most n ps h = by (n == 0)
  where
    by : (b : Bool) → IfSome (cond b None (slice_get ps (n - 1))) (Ends most)
    by true = tt
    by false = ends_at most ps (n - 1) h

inside_of : (most : ℕ) (o : Option Piece) (bytes : List ℕ) → IfSome o (Ends most) → (replacing o bytes).at + (replacing o bytes).removed ≤ most
inside_of most None bytes h = omega arith
inside_of most (Some p) bytes h = h

-- a change of an item lies within its text
pub change_inside : (text bytes : List ℕ) (items : List Placed) (n : ℕ) (o : Option Piece) (s : Splice) → pieces_at items ≡ items_of text → o ≡ numbered (pieces_at items) n → s ≡ replacing o bytes → s.at + s.removed ≤ length text
change_inside text bytes items n o s cut is by =
    let ends = subst (λ (x : Option Piece). IfSome x (Ends (length text))) (sym (is ∙ ap (λ (ps : List Piece). numbered ps n) cut)) (ends_numbered (length text) n (items_of text) (ends_in text)) in
    subst (λ (x : Splice). x.at + x.removed ≤ length text) (sym by) (inside_of (length text) o bytes ends)

-- a text after the change that an edit is, seen as another text that is the same
pub spliced_as : (seen text : List ℕ) (splice : Splice) (edit : Edit) → seen ≡ text → splice ≡ splice_of seen edit → spliced seen splice ≡ applied text edit
spliced_as seen text splice edit same by =
    ap (spliced seen) by ∙ made seen edit ∙ ap (λ (t : List ℕ). applied t edit) same
