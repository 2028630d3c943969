use Rattle.moved_lines.specs.Moving.{back, back_offset, moved_piece, moved_placed, moved_txn, CanMovePiece, CanMovePlaced, CanMoveTxn}
use Rattle.moved_lines.proofs.Backs.{from-can, from-home, piece-can, piece-home, placed-can, placed-home, txn-can, txn-home}
use Rattle.moved_lines.proofs.laws.moved_there_and_back.Goals as goal

pub returns-clause-txns : goal.returns-clause-txns
returns-clause-txns c n by txns = from-home (moved_txn by) (moved_txn (back by)) (CanMoveTxn by) (CanMoveTxn (back by)) (txn-home by) (txn-can by) n txns

pub returns-clause-txns_can : goal.returns-clause-txns_can
returns-clause-txns_can c n by txns = from-can (moved_txn by) (moved_txn (back by)) (CanMoveTxn by) (CanMoveTxn (back by)) (txn-home by) (txn-can by) n txns

pub returns-clause-items : goal.returns-clause-items
returns-clause-items c n by items =
    from-home (moved_placed by) (moved_placed (back_offset by)) (CanMovePlaced by) (CanMovePlaced (back_offset by)) (placed-home by) (placed-can by) n items

pub returns-clause-items_can : goal.returns-clause-items_can
returns-clause-items_can c n by items =
    from-can (moved_placed by) (moved_placed (back_offset by)) (CanMovePlaced by) (CanMovePlaced (back_offset by)) (placed-home by) (placed-can by) n items

pub returns-clause-pieces : goal.returns-clause-pieces
returns-clause-pieces c n by pieces =
    from-home (moved_piece by) (moved_piece (back_offset by)) (CanMovePiece by) (CanMovePiece (back_offset by)) (piece-home by) (piece-can by) n pieces

pub returns-clause-pieces_can : goal.returns-clause-pieces_can
returns-clause-pieces_can c n by pieces =
    from-can (moved_piece by) (moved_piece (back_offset by)) (CanMovePiece by) (CanMovePiece (back_offset by)) (piece-home by) (piece-can by) n pieces
