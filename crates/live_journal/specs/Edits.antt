-- The text that an edit makes, and the change of the old text by which it is made.
use Rattle.std.specs.Prelude.{ℕ, ◌+◌, ◌-◌, ◌==◌, Bool, List, [], ◌++◌, if◌then◌else◌, length, take, drop, slice_get, Option, Some, None}
use Rattle.hl_base.specs.Items.{items_of}
use Rattle.hl_base.specs.declared.items.Piece.{Piece}
use Rattle.hl_base.specs.declared.change.Splice.{Splice}
use Rattle.text_ends.specs.Ends.{is_unclosed, last_of}
pub use Rattle.text_ends.specs.Ends.{ends_line, is_block}
pub use Rattle.additions.specs.Adding.{added, blank_line, block_end, ended, line_end}
use Rattle.live_journal.specs.declared.edit.Edit.{Edit}
use Rattle.live_journal.specs.declared.edit.Edit.TheVariants.{Add, Change, Replace}

-- the last piece is a block, and no line of it ends it
abbrev pub is_open : List ℕ → Option Piece → Bool
is_open text piece = is_unclosed text piece

abbrev pub last_piece : List Piece → Option Piece
last_piece pieces = last_of pieces

abbrev pub has_open_block : List ℕ → Bool
has_open_block text = is_open text (last_piece (items_of text))

-- the item of a number, counted from 1
abbrev pub numbered : List Piece → ℕ → Option Piece
numbered pieces n = if n == 0 then None else slice_get pieces (n - 1)

-- the text with bytes in the place of a piece
abbrev pub replaced : List ℕ → Option Piece → List ℕ → List ℕ
replaced text None bytes = text
replaced text (Some piece) bytes = take piece.at text ++ bytes ++ drop (piece.at + piece.len) text

-- the text that an edit makes of a text
abbrev pub applied : List ℕ → Edit → List ℕ
applied text (Add entry) = text ++ added text entry
applied text (Change base item entry) = replaced text (numbered (items_of text) item) (ended entry)
applied text (Replace base new) = new

-- the change that puts bytes in the place of a piece; none where there is no piece
abbrev pub replacing : Option Piece → List ℕ → Splice
replacing None bytes = record { at = 0; removed = 0; inserted = [] }
replacing (Some piece) bytes = record { at = piece.at; removed = piece.len; inserted = bytes }

-- the change of a text that an edit is: an entry at its end, an item's new bytes, or all of it
abbrev pub splice_of : List ℕ → Edit → Splice
splice_of text (Add entry) = record { at = length text; removed = 0; inserted = added text entry }
splice_of text (Change base item entry) = replacing (numbered (items_of text) item) (ended entry)
splice_of text (Replace base new) = record { at = 0; removed = length text; inserted = new }

-- a text after a change
abbrev pub spliced : List ℕ → Splice → List ℕ
spliced text splice = take splice.at text ++ splice.inserted ++ drop (splice.at + splice.removed) text
