use Rattle.additions.proofs.Judging.{grown_as}
use Rattle.additions.proofs.book_end.with_book.Goals as goal

pub returns-in-Some-clause-grown : goal.returns-in-Some-clause-grown
returns-in-Some-clause-grown c = grown_as c.added_with.result c.args.told c.in-Some.grown c.in-Some.is c.added_with.ensures.grown
