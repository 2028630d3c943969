use Rattle.index_cells.proofs.tests.check_book.Goals as goal

pub returns-clause-dated : goal.returns-clause-dated
returns-clause-dated c = c.are_dated-dated.ensures.0 c.if-not-dated.false
