use Rattle.book_laws.proofs.Few.{few_of}
use Rattle.book_laws.proofs.decimals.decimals_of_a_book.Goals as goal

pub returns : goal.returns
returns c text book solves few = few_of text book solves few
