use Rattle.std.proofs.Common.{◌+◌, set, refl}
use Rattle.moved_lines.specs.Moving.{moved_piece}
use Rattle.changed_texts.proofs.Places.{put_is}
use Rattle.changed_texts.proofs.putting.put_piece.Goals as goal

pub returns : goal.returns
returns c =
    put_is (moved_piece c.args.by) c.args.number (c.args.number + 1) c.args.piece c.args.pieces.now c.move_pieces.new.pieces (set c.move_pieces.new.pieces c.args.number c.args.piece) refl
    c.requires.number c.move_pieces.ensures refl
