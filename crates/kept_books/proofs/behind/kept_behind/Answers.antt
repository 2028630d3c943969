use Rattle.kept_books.proofs.Adding.{kept_more, rows_behind}
use Rattle.kept_books.proofs.behind.kept_behind.Goals as goal

pub index_behind-requires : goal.index_behind-requires
index_behind-requires c = rows_behind c.args.kept.now.index c.args.book.now c.args.txns.now c.requires.kept.stand c.requires.fits

pub days_behind-requires : goal.days_behind-requires
days_behind-requires c = c.requires.kept.days

pub returns : goal.returns
returns c = kept_more c.args.book.now c.args.txns.now c.args.kept.now (record { index = c.in_ok-index.index; days = c.in_ok-days.days; turnover = c.in_ok-turnover.turnover }) c.requires.kept c.in_ok-index.ensures c.in_ok-days.ensures c.in_ok-turnover.ensures
