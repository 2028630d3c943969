use Rattle.live_cells.proofs.book_sums.BookSums.new.Goals as goal

pub invariant_of-result : goal.invariant_of-result
invariant_of-result c = record { fits = c.requires.fits; told = c.requires.told }
