-- What becomes of the end of a text when other bytes stand in the place of one of its entries.
use Rattle.std.specs.Prelude.{◌≡◌, ℕ, suc, ◌||◌, List, ◌==◌, length}
use Rattle.hl_base.specs.Items.{items_of}
use Rattle.hl_base.specs.declared.items.Piece.{Piece}
use Rattle.moved_lines.specs.Moving.{CanMove, moved_number}
use Rattle.moved_lines.specs.declared.shift.Offset.{Offset}
use Rattle.text_ends.specs.Ends.{last_of}
use Rattle.text_ends.specs.declared.kept.KeptEnd.{KeptEnd}
use Rattle.changed_texts.specs.Replacing.{offset_of, replaced}
use Rattle.kept_texts.specs.declared.kept.EndMove.{EndMove}

-- What is told is how the text's end moves when bytes stand in the place of its n-th piece.
pub record IsEndMove (text : List ℕ) (n : ℕ) (p : Piece) (bytes : List ℕ) (move : EndMove) : Type 0 where
  pub by : move.by ≡ offset_of text p bytes
  pub last : move.last ≡ last_of (items_of (replaced text p bytes))
  pub was_last : move.was_last ≡ (suc n == length (items_of text))

-- the numbers of lines and bytes of a text can move so far
pub record CanMoveEnd (by : Offset) (end : KeptEnd) : Type 0 where
  pub lines : CanMove by.lines end.lines
  pub bytes : CanMove by.bytes end.bytes

-- what is kept of the end of a text once it has moved so
abbrev pub moved_end : EndMove → KeptEnd → KeptEnd
moved_end move end = record {
  last = move.last;
  ended = end.ended || move.was_last;
  unclosed = end.unclosed;
  lines = moved_number move.by.lines end.lines;
  bytes = moved_number move.by.bytes end.bytes;
  context = end.context;
}
