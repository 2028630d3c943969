use Rattle.moved_lines.proofs.pieces.move_piece.Goals as goal

pub moved-piece-requires : goal.moved-piece-requires
moved-piece-requires c = c.requires.at

pub moved-piece-requires-2 : goal.moved-piece-requires-2
moved-piece-requires-2 c = c.requires.line

pub returns : goal.returns
returns c = λ i. record (c.args.piece.now) { at = c.moved-piece.ensures i; line = c.moved-piece-2.ensures i }
