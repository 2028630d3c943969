-- What a text with bytes behind it is: the text, and what the bytes come to there.
use Rattle.std.specs.Prelude.{◌≡◌, ℕ, ◌+◌, List, [], ◌∷◌, ◌++◌, map, Option, Some, None, Ok, length}
use Rattle.hl_base.specs.Items.{items_of}
use Rattle.hl_base.specs.Lines.{lines_of}
use Rattle.hl_base.specs.declared.items.Piece.{Piece}
use Rattle.book.specs.declared.item.Placed.{Placed}
use Rattle.entry_reader.specs.Causes.{◌>>=◌}
use Rattle.journal_reader.specs.Items.{items_in}
use Rattle.text_ends.specs.Ends.{end_of, front_of, last_of}
use Rattle.text_ends.specs.declared.kept.KeptEnd.{KeptEnd}
use Rattle.text_ends.specs.declared.reading.Grown.{Grown}
use Rattle.text_ends.specs.Growth.{lines_taken, put_behind, rest_of, shifted, taken}

-- a piece with so many more bytes
abbrev pub longer : ℕ → Piece → Piece
longer more p = record { at = p.at; len = p.len + more; line = p.line; kind = p.kind }

abbrev pub grown_piece : ℕ → Option Piece → List Piece
grown_piece more None = []
grown_piece more (Some p) = longer more p ∷ []

-- an item whose piece has so many more bytes; it says the same
abbrev pub grown_item : ℕ → Option Placed → List Placed
grown_item more None = []
grown_item more (Some placed) = record { piece = longer more placed.piece; item = placed.item } ∷ []

-- the items of the whole: those of the text, the last of them longer, and those behind it
abbrev pub items_behind : List Placed → Grown → List Placed
items_behind items g = front_of items ++ (grown_item g.taken (last_of items) ++ g.items)

-- What is so of a text that begins in a year and reads as these items, and of whose end this is kept, with the bytes behind it.
pub record GoesOnBy (year : Option ℕ) (text bytes : List ℕ) (items : List Placed) (e : KeptEnd) : Type 0 where
  -- it has its pieces, the last of them longer by what that takes, and then those of the bytes' rest
  pub cut : items_of (text ++ bytes) ≡ front_of (items_of text) ++ (grown_piece (taken e bytes) (last_of (items_of text)) ++ map (shifted (length text + taken e bytes) (length (lines_of text) + lines_taken e bytes)) (items_of (rest_of e bytes)))
  -- it has as many more items
  pub count : length (items_of (text ++ bytes)) ≡ length (items_of text) + length (items_of (rest_of e bytes))
  -- it has as many more lines
  pub lines : length (lines_of (text ++ bytes)) ≡ length (lines_of text) + lines_taken e bytes + length (lines_of (rest_of e bytes))
  -- it reads as its items, the last of them longer, and what the rest says; or it has the fault of what is put there
  pub read : items_in year (text ++ bytes) ≡ (put_behind e bytes >>= λ g. Ok (items_behind items g))

abbrev pub GoesOn : Option ℕ → List ℕ → List ℕ → List Placed → Type 0
GoesOn year text bytes items = GoesOnBy year text bytes items (end_of year text items)
