-- What becomes of a text, of its pieces and of what they say, when other bytes stand in the place of one of its entries.
use Rattle.std.specs.Prelude.{◌≡◌, ℕ, zero, suc, ◌+◌, Bool, true, false, ◌&&◌, List, [], ◌∷◌, ◌++◌, ◌==◌, map, length, take, drop, slice_get, Option, Some, None, Result, Ok}
use Rattle.hl_base.specs.Items.{items_of}
use Rattle.hl_base.specs.Lines.{lines_of}
pub use Rattle.hl_base.specs.Pieces.{is_entry as is_entry_kind}
use Rattle.hl_base.specs.declared.items.Kind.{Kind}
use Rattle.hl_base.specs.declared.items.Kind.TheVariants as kinds
use Rattle.hl_base.specs.declared.items.Piece.{Piece}
use Rattle.book.specs.Postings.{txns_of}
pub use Rattle.book.specs.Postings.{IsTxn}
use Rattle.book.specs.declared.fault.Fault.{Fault}
use Rattle.book.specs.declared.item.Item.{Item}
use Rattle.book.specs.declared.item.Item.TheVariants as item
use Rattle.book.specs.declared.item.Placed.{Placed}
use Rattle.entry_reader.specs.Causes.{◌>>=◌}
use Rattle.entry_reader.specs.Contexts.{context_of}
use Rattle.journal_reader.specs.Items.{reading}
use Rattle.moved_lines.specs.Moving.{moved_piece, moved_placed}
use Rattle.moved_lines.specs.declared.shift.Offset.{Offset}
use Rattle.text_ends.specs.Ends.{ends_line}
use Rattle.text_ends.specs.Ends.{items_at}

-- ---- the text

-- the bytes of a piece
abbrev pub bytes_at : List ℕ → Piece → List ℕ
bytes_at text p = take p.len (drop p.at text)

-- the text with other bytes in the place of a piece
abbrev pub replaced : List ℕ → Piece → List ℕ → List ℕ
replaced text p bytes = take p.at text ++ bytes ++ drop (p.at + p.len) text

-- The n-th piece of a text, counted from 0, is this entry.
pub record IsEntryOf (text : List ℕ) (n : ℕ) (p : Piece) : Type 0 where
  pub here : slice_get (items_of text) n ≡ Some p
  pub kind : p.kind ≡ kinds.Entry

-- the piece that bytes are by themselves, if they are one entry
abbrev pub entry_alone : List ℕ → Piece
entry_alone bytes = record { at = 0; len = length bytes; line = 1; kind = kinds.Entry }

-- Bytes are one entry, and end with the end of a line.
pub record IsEntry (bytes : List ℕ) : Type 0 where
  pub ends : ends_line bytes ≡ true
  pub one : items_of bytes ≡ entry_alone bytes ∷ []

abbrev pub is_entry_in : Option Piece → Bool
is_entry_in None = false
is_entry_in (Some p) = is_entry_kind p.kind

-- there is one piece, and it is an entry
abbrev pub is_one_entry : List Piece → Bool
is_one_entry ps = (length ps == 1) && is_entry_in (slice_get ps 0)

-- how far what stands behind a piece moves, when bytes stand in its place
abbrev pub offset_of : List ℕ → Piece → List ℕ → Offset
offset_of text p bytes = record {
  bytes = record { removed = p.len; added = length bytes };
  lines = record { removed = length (lines_of (bytes_at text p)); added = length (lines_of bytes) };
}

-- ---- what it is cut into, and what it says

-- of some things the n-th becomes another one, and those behind it are moved
abbrev pub changed_at : {X : Type 0} → (X → X) → ℕ → X → List X → List X
changed_at move n x xs = take n xs ++ x ∷ map move (drop (suc n) xs)

-- the piece of bytes in the place of an entry
abbrev pub piece_of : Piece → List ℕ → Piece
piece_of p bytes = record p { len = length bytes }

-- the pieces of the text with bytes in the place of the n-th
abbrev pub changed_pieces : List ℕ → ℕ → Piece → List ℕ → List Piece
changed_pieces text n p bytes = changed_at (moved_piece (offset_of text p bytes)) n (piece_of p bytes) (items_of text)

-- of some things the n-th goes, and those behind it are moved
abbrev pub left_at : {X : Type 0} → (X → X) → ℕ → List X → List X
left_at move n xs = take n xs ++ map move (drop (suc n) xs)

-- the pieces of the text without the n-th
abbrev pub left_pieces : List ℕ → ℕ → Piece → List Piece
left_pieces text n p = left_at (moved_piece (offset_of text p [])) n (items_of text)

abbrev pub is_gap : Kind → Bool
is_gap kinds.Gap = true
is_gap kinds.Block = false
is_gap kinds.Entry = false
is_gap kinds.Head = false
is_gap kinds.Stray = false

abbrev pub is_gap_in : Option Piece → Bool
is_gap_in None = false
is_gap_in (Some p) = is_gap p.kind

-- there is an n-th piece, and it is a gap
abbrev pub is_gap_at : ℕ → List Piece → Bool
is_gap_at n ps = is_gap_in (slice_get ps n)

-- the n-th piece stands between two gaps, which are one without it
abbrev pub is_between_gaps : ℕ → List Piece → Bool
is_between_gaps zero ps = false
is_between_gaps (suc n) ps = is_gap_at n ps && is_gap_at (suc (suc n)) ps

-- what the bytes say in the place of the n-th item
abbrev pub said_there : Option ℕ → List Placed → ℕ → Piece → List ℕ → Result Item Fault
said_there year items n p bytes = reading (context_of year (items_at (take n items))) p.line bytes

-- the items, of which the n-th says something else
abbrev pub changed_items : List ℕ → List Placed → ℕ → Piece → List ℕ → Item → List Placed
changed_items text items n p bytes i = changed_at (moved_placed (offset_of text p bytes)) n (record { piece = piece_of p bytes; item = i }) items

-- the items without the n-th
abbrev pub left_items : List ℕ → List Placed → ℕ → Piece → List Placed
left_items text items n p = left_at (moved_placed (offset_of text p [])) n items

-- What the text with bytes in the place of the n-th piece says: the items with another one; or the fault of the bytes.
abbrev pub read_anew : Option ℕ → List ℕ → List Placed → ℕ → Piece → List ℕ → Result (List Placed) Fault
read_anew year text items n p bytes = said_there year items n p bytes >>= λ i. Ok (changed_items text items n p bytes i)

-- the number of the transaction that the n-th item is, among all of the text
abbrev pub number_at : List Placed → ℕ → ℕ
number_at items n = length (txns_of (take n items))
