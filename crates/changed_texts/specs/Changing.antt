-- What a change makes of the items of a text.
use Rattle.std.specs.Prelude.{ℕ, List}
use Rattle.hl_base.specs.declared.items.Piece.{Piece}
use Rattle.book.specs.declared.item.Item.{Item}
use Rattle.book.specs.declared.item.Placed.{Placed}
use Rattle.moved_lines.specs.Moving.{moved_placed}
use Rattle.changed_texts.specs.Replacing.{changed_at, offset_of, piece_of}
use Rattle.changed_texts.specs.declared.change.Change.{Change}

-- the items of a text, of which one with a number is changed
abbrev pub items_with : ℕ → List Placed → Change → List Placed
items_with n items change = changed_at (moved_placed change.by) n change.placed items

-- the change to what bytes say that stand in the place of a piece
abbrev pub change_to : List ℕ → Piece → List ℕ → Item → Change
change_to text old bytes i = record { placed = record { piece = piece_of old bytes; item = i }; by = offset_of text old bytes }
