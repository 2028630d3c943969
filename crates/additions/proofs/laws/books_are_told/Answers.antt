use Rattle.additions.proofs.Costs.{book_told}
use Rattle.additions.proofs.laws.books_are_told.Goals as goal

pub returns : goal.returns
returns c = book_told
