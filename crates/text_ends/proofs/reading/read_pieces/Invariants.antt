use Rattle.std.proofs.Common.{◌≡◌, ◌+◌, take, drop}
use Rattle.hl_base.specs.Pieces.{bytes_in}
use Rattle.text_ends.specs.Told.{before_read, told_on}
use Rattle.text_ends.proofs.reading.read_pieces.Given as goal

abbrev pub invariant-loop-piece : goal.invariant-loop-piece
invariant-loop-piece g l = record {
  so_far : before_read l.items.items (told_on l.end.context l.place.bytes l.place.lines l.bytes (drop l.piece-index l.pieces)) ≡ told_on l.end.context l.place.bytes l.place.lines l.bytes l.pieces;
  read : l.steps.bytes_read ≡ l.fn.steps.bytes_read + bytes_in (take l.piece-index l.pieces);
  others : l.steps ≡ record l.fn.steps { bytes_read = l.steps.bytes_read };
}
