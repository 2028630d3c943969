use Rattle.kept_books.proofs.sums.sums_of.Goals as goal

pub dated_sums-requires-clause-dated : goal.dated_sums-requires-clause-dated
dated_sums-requires-clause-dated c = c.are_dated-dated.ensures.0 c.if-not-dated.false
