use Rattle.std.proofs.Common.{◌≡◌, ◌++◌, map, take, drop}
use Rattle.moved_lines.specs.Moving.{moved_piece}
use Rattle.moved_lines.proofs.pieces.move_all.Given as goal

abbrev pub invariant-loop-piece : goal.invariant-loop-piece
invariant-loop-piece l = l.pieces ≡ map (moved_piece l.by) (take l.piece-index l.fn.pieces) ++ drop l.piece-index l.fn.pieces
