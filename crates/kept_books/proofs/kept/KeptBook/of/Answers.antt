use Rattle.kept_books.proofs.kept.KeptBook.of.Goals as goal

pub returns : goal.returns
returns c = record { walks = c.in_ok-walks.ensures; sums = tt }
