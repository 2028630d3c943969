use Rattle.changed_texts.proofs.Moves.{can_move, can_move_pieces}
use Rattle.changed_texts.proofs.Places.{put_back_is}
use Rattle.changed_texts.proofs.laws.what_is_behind_can_move.Goals as goal

pub returns-clause-can : goal.returns-clause-can
returns-clause-can c year text bytes items n p of read short = can_move year text bytes items n p of read short

pub returns-clause-back : goal.returns-clause-back
returns-clause-back c by items n old new there can = put_back_is by items n old new there can

pub returns-clause-pieces : goal.returns-clause-pieces
returns-clause-pieces c text bytes n p of short = can_move_pieces text bytes n p of short
