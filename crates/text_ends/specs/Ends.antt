-- What is kept of a text's end.
use Rattle.std.specs.Prelude.{ℕ, ◌-◌, Bool, true, false, ◌&&◌, not, List, Option, Some, None, length, take, drop}
use Rattle.std.specs.List.{list_any, slice_get}
use Rattle.hl_base.specs.Items.{closes_block, items_of}
use Rattle.hl_base.specs.Lines.{lines_of}
pub use Rattle.hl_base.specs.Lines.{ends_line}
use Rattle.hl_base.specs.declared.items.Kind.{Kind}
use Rattle.hl_base.specs.declared.items.Kind.TheVariants as kinds
use Rattle.hl_base.specs.declared.items.Piece.{Piece}
use Rattle.book.specs.declared.item.Placed.{Placed}
pub use Rattle.entry_reader.specs.Contexts.{items_at}
use Rattle.entry_reader.specs.Contexts.{context_of}
use Rattle.text_ends.specs.declared.kept.KeptEnd.{KeptEnd}

-- the last of some, if there are any
abbrev pub last_of : {X : Type 0} → List X → Option X
last_of xs = slice_get xs (length xs - 1)

-- all but the last
abbrev pub front_of : {X : Type 0} → List X → List X
front_of xs = take (length xs - 1) xs

abbrev pub is_block : Kind → Bool
is_block kinds.Block = true
is_block kinds.Gap = false
is_block kinds.Entry = false
is_block kinds.Head = false
is_block kinds.Stray = false

-- a piece at the end of the text is a block, and no line of it ends it
abbrev pub is_unclosed : List ℕ → Option Piece → Bool
is_unclosed text None = false
is_unclosed text (Some piece) = is_block piece.kind && not (list_any closes_block (lines_of (drop piece.at text)))

-- What is kept of a text that begins in a year and has these items: its last piece, whether it ends with LF and whether it
-- leaves a block without its end, its lines and its bytes, and the context behind it.
abbrev pub end_of : Option ℕ → List ℕ → List Placed → KeptEnd
end_of year text items = record {
  last = last_of (items_of text);
  ended = ends_line text;
  unclosed = is_unclosed text (last_of (items_of text));
  lines = length (lines_of text);
  bytes = length text;
  context = context_of year (items_at items);
}
