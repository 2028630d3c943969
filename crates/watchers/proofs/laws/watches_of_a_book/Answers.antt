use Rattle.watchers.proofs.Members.{book-watches}
use Rattle.watchers.proofs.laws.watches_of_a_book.Goals as goal

pub returns : goal.returns
returns c = book-watches 0
