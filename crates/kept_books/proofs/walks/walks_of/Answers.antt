use Rattle.book.specs.Postings.{postings_of, txns_of}
use Rattle.kept_turnover.proofs.Ranged.{ranged}
use Rattle.walked_edits.proofs.Turning.{solves_told}
use Rattle.kept_books.proofs.walks.walks_of.Goals as goal

pub of-requires : goal.of-requires
of-requires c = solves_told (txns_of c.args.items.now) c.args.txns.now c.requires

pub walks_with-requires-clause-fits : goal.walks_with-requires-clause-fits
walks_with-requires-clause-fits c = ranged (postings_of c.args.txns.now) c.in_ok-turnover.ensures.few c.requires.fits
