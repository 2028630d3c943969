use Rattle.reached_walk.proofs.Looking.{text-watched}
use Rattle.reached_walk.proofs.laws.watches_of_a_text.Goals as goal

pub returns : goal.returns
returns c = text-watched
