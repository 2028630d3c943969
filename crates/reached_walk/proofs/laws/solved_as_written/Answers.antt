use Rattle.reached_walk.proofs.Forms.{covers-book, hands-alike}
use Rattle.reached_walk.proofs.laws.solved_as_written.Goals as goal

pub returns : goal.returns
returns c set text book s h = hands-alike set text book (covers-book text book s) h
