use Rattle.std.proofs.Common.{◌≡◌, ◌+◌, take}
use Rattle.hl_base.specs.Pieces.{bytes_in}
use Rattle.changed_texts.proofs.Several.{HasRead}
use Rattle.changed_texts.proofs.entries.read_pieces.Given as goal

abbrev pub invariant-loop-piece : goal.invariant-loop-piece
invariant-loop-piece g l = record {
  kept : HasRead l.fn.year l.before l.text l.pieces l.piece-index l.items.items l.context;
  read : l.steps.bytes_read ≡ l.fn.steps.bytes_read + bytes_in (take l.piece-index l.pieces);
  others : l.steps ≡ record l.fn.steps { bytes_read = l.steps.bytes_read };
}
