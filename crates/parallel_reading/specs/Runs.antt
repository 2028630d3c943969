-- Pieces that are all read in one context.
use Rattle.std.specs.Prelude.{ℕ, Bool, true, false, ◌||◌, List, [], ◌∷◌, ◌++◌, ◌*◌, ◌/◌, Result, Ok, length, take, drop}
use Rattle.hl_base.specs.Lines.{first_line}
use Rattle.hl_base.specs.Items.{kind_of}
use Rattle.hl_base.specs.declared.items.Kind.{Kind}
use Rattle.hl_base.specs.declared.items.Kind.TheVariants as kinds
use Rattle.hl_base.specs.declared.items.Piece.{Piece}
use Rattle.book.specs.declared.item.Placed.{Placed}
use Rattle.book.specs.declared.fault.Fault.{Fault}
use Rattle.entry_reader.specs.Causes.{◌>>=◌}
pub use Rattle.entry_reader.specs.Contexts.{items_at}
use Rattle.entry_reader.specs.Contexts.{Context}
use Rattle.journal_reader.specs.Items.{reading}

-- the bytes of a piece of a text
abbrev pub bytes_of : List ℕ → Piece → List ℕ
bytes_of text piece = take piece.len (drop piece.at text)

-- a piece of this kind is a directive, a price or a rule
abbrev pub is_head_kind : Kind → Bool
is_head_kind kinds.Head = true
is_head_kind _ = false

-- some bytes begin with a directive, a price or a rule
abbrev pub is_head : List ℕ → Bool
is_head bytes = is_head_kind (kind_of (first_line bytes))

-- some piece of the text begins with one
abbrev pub has_head : List ℕ → List Piece → Bool
has_head text [] = false
has_head text (p ∷ ps) = is_head (bytes_of text p) || has_head text ps

-- what some pieces of a text say, each in the same context; or the fault of the first that doesn't read
unfoldable pub read_alike : Context → List ℕ → List Piece → Result (List Placed) Fault
read_alike context text [] = Ok []
read_alike context text (p ∷ ps) = do
  i ← reading context p.line (bytes_of text p)
  more ← read_alike context text ps
  Ok (record { piece = p; item = i } ∷ more)

-- what a run of pieces says, and behind it what a second one does; the first fault decides
abbrev pub both : Result (List Placed) Fault → Result (List Placed) Fault → Result (List Placed) Fault
both front back = do
  items ← front
  more ← back
  Ok (items ++ more)

-- the pieces of the first three fifths of a run, and the others
abbrev pub first_part : List Piece → List Piece
first_part pieces = take (length pieces / 5 * 3) pieces

abbrev pub second_part : List Piece → List Piece
second_part pieces = drop (length pieces / 5 * 3) pieces
