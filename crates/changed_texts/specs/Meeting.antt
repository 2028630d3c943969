-- What becomes of the pieces of a text when any entries and gaps stand in the place of one of its entries: gaps that meet are
-- one.
use Rattle.std.specs.Prelude.{◌≡◌, ℕ, suc, ◌+◌, ◌-◌, Bool, true, false, not, ◌&&◌, ◌||◌, List, [], ◌∷◌, map, take, drop, if◌then◌else◌, Option, Result}
use Rattle.std.specs.List.{list_all, prefix_len, AllByRecursion}
use Rattle.hl_base.specs.Items.{is_indented, items_of}
use Rattle.hl_base.specs.Lines.{first_line, lines_of}
use Rattle.hl_base.specs.declared.items.Kind.{Kind}
use Rattle.hl_base.specs.declared.items.Piece.{Piece}
use Rattle.book.specs.declared.fault.Fault.{Fault}
use Rattle.book.specs.declared.item.Item.{Item}
use Rattle.book.specs.declared.item.Placed.{Placed}
use Rattle.journal_reader.specs.Items.{reading_from}
use Rattle.moved_lines.specs.Moving.{moved_piece, moved_placed}
use Rattle.text_ends.specs.Ends.{ends_line}
use Rattle.text_ends.specs.Growth.{shifted}
use Rattle.changed_texts.specs.Replacing.{is_entry_kind, is_gap, offset_of}

-- a piece before others: a gap and a gap are one
abbrev pub with_piece : Piece → List Piece → List Piece
with_piece p [] = p ∷ []
with_piece p (q ∷ qs) = if is_gap p.kind && is_gap q.kind then record p { len = p.len + q.len } ∷ qs else p ∷ q ∷ qs

-- pieces before others: where two gaps meet they are one
abbrev pub meeting : List Piece → List Piece → List Piece
meeting [] qs = qs
meeting (p ∷ []) qs = with_piece p qs
meeting (p ∷ q ∷ ps) qs = p ∷ meeting (q ∷ ps) qs

abbrev pub is_entry_or_gap : Kind → Bool
is_entry_or_gap kind = is_entry_kind kind || is_gap kind

-- a text is empty or ends with the end of a line
abbrev pub is_ended : List ℕ → Bool
is_ended [] = true
is_ended (b ∷ bs) = ends_line (b ∷ bs)

-- its first line, if it has one, is indented
abbrev pub begins_indented : List ℕ → Bool
begins_indented [] = false
begins_indented (b ∷ bs) = is_indented (first_line (b ∷ bs))

-- whether bytes, of which these are the pieces, are entries and gaps alone
abbrev pub are_entries : List ℕ → List Piece → Bool
are_entries bytes pieces = (is_ended bytes && not (begins_indented bytes)) && list_all (λ q. is_entry_or_gap q.kind) pieces

-- Bytes are entries and gaps alone, or nothing; they end with the end of a line, and their first line isn't indented.
pub record AreEntries (bytes : List ℕ) : Type 0 where
  pub ends : is_ended bytes ≡ true
  pub first : prefix_len is_indented (lines_of bytes) ≡ 0
  pub kinds : AllByRecursion (λ q. is_entry_or_gap q.kind ≡ true) (items_of bytes)

-- The pieces of the text with such bytes in the place of the n-th: those before it, those of the bytes, and those behind it.
abbrev pub met_pieces : List ℕ → ℕ → Piece → List ℕ → List Piece
met_pieces text n p bytes =
    meeting (take n (items_of text))
    (meeting (map (shifted p.at (p.line - 1)) (items_of bytes)) (map (moved_piece (offset_of text p bytes)) (drop (suc n) (items_of text))))

-- ---- what they say

-- an item before others: a gap and a gap are one
abbrev pub with_item : Placed → List Placed → List Placed
with_item p [] = p ∷ []
with_item p (q ∷ qs) =
    if is_gap p.piece.kind && is_gap q.piece.kind then record { piece = record p.piece { len = p.piece.len + q.piece.len }; item = p.item } ∷ qs
    else p ∷ q ∷ qs

-- items before others: where two gaps meet they are one
abbrev pub meeting_items : List Placed → List Placed → List Placed
meeting_items [] qs = qs
meeting_items (p ∷ []) qs = with_item p qs
meeting_items (p ∷ q ∷ ps) qs = p ∷ meeting_items (q ∷ ps) qs

-- what bytes say behind some items and so many lines, their pieces counted from their own first byte
abbrev pub said_behind : Option ℕ → List Item → ℕ → List ℕ → Result (List Placed) Fault
said_behind year before lines bytes = reading_from year before bytes (map (shifted 0 lines) (items_of bytes))

-- an item so many bytes further on
abbrev pub further_on : ℕ → Placed → Placed
further_on at p = record p { piece = record p.piece { at = at + p.piece.at } }

-- The items of the text with what such bytes say in the place of the n-th.
abbrev pub met_items : List ℕ → List Placed → ℕ → Piece → List ℕ → List Placed → List Placed
met_items text items n p bytes said =
    meeting_items (take n items)
    (meeting_items (map (further_on p.at) said) (map (moved_placed (offset_of text p bytes)) (drop (suc n) items)))
