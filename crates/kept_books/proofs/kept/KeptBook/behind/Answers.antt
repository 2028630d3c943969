use Rattle.std.proofs.Common.{◌++◌}
use Rattle.book.specs.Postings.{txns_of}
use Rattle.walked_edits.proofs.Turning.{solves_told}
use Rattle.kept_books.proofs.Adding.{told_behind}
use Rattle.kept_books.proofs.kept.KeptBook.behind.Goals as goal

pub walks_behind-requires-clause-walks : goal.walks_behind-requires-clause-walks
walks_behind-requires-clause-walks c = c.requires.kept.walks

pub walks_behind-requires-clause-told : goal.walks_behind-requires-clause-told
walks_behind-requires-clause-told c =
    told_behind c.args.book.now c.args.txns.now (solves_told (txns_of c.args.items.now ++ txns_of c.args.more.now) (c.args.book.now ++ c.args.txns.now) c.requires.solves)

pub sums_after-requires-clause-sums : goal.sums_after-requires-clause-sums
sums_after-requires-clause-sums c = c.requires.kept.sums

pub returns : goal.returns
returns c = record { walks = c.in_ok-walks.ensures; sums = c.in_ok-sums.ensures }
