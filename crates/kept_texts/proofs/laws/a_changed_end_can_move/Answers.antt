use Rattle.changed_texts.proofs.Found.{found}
use Rattle.kept_texts.proofs.Ended.{bytes_can, lines_can}
use Rattle.kept_texts.proofs.laws.a_changed_end_can_move.Goals as goal

pub returns : goal.returns
returns c = λ year text bytes items n p of few. record { lines = lines_can text bytes n p (found text n p of) few; bytes = bytes_can text bytes n p (found text n p of) few }
