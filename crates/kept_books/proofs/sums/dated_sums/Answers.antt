use Rattle.index_cells.proofs.Fitting.{posted_fit}
use Rattle.kept_books.proofs.sums.dated_sums.Goals as goal

pub keep_book-requires : goal.keep_book-requires
keep_book-requires c = posted_fit c.args.txns.now c.requires.fits

pub returns : goal.returns
returns c = record { keeps = c.in_ok-sums.ensures.keeps; dated = c.requires.dated; names = c.in_ok-sums.ensures.names }
