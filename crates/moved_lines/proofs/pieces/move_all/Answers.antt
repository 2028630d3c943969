use Rattle.moved_lines.specs.Moving.{moved_piece, CanMovePiece}
use Rattle.moved_lines.proofs.Lists.{changed-all, changed-can, changed-step}
use Rattle.moved_lines.proofs.pieces.move_all.Goals as goal

pub move_piece-requires : goal.move_piece-requires
move_piece-requires c =
    changed-can (moved_piece c.args.by) c.args.pieces.now c.loop-piece.pieces c.loop-piece.piece-index (CanMovePiece c.args.by) _
    c.loop-piece-test.true c.loop-piece.invariant c.requires

pub loop-piece-preserved : goal.loop-piece-preserved
loop-piece-preserved c =
    changed-step (moved_piece c.args.by) c.args.pieces.now c.loop-piece.pieces c.loop-piece.piece-index _ c.move_piece.new.piece
    c.loop-piece-test.true c.loop-piece.invariant c.move_piece.ensures

pub returns : goal.returns
returns c =
    changed-all (moved_piece c.args.by) c.args.pieces.now c.loop-piece.pieces c.loop-piece.piece-index c.loop-piece-test.false c.loop-piece.invariant
