use Rattle.reached_walk.proofs.Forms.{book-watched}
use Rattle.reached_walk.proofs.laws.watches_of_a_book.Goals as goal

pub returns : goal.returns
returns c = book-watched
