use Rattle.book_laws.proofs.Lined.{days-same, fits-same, stand-same, turnover-same}
use Rattle.book_laws.proofs.lines.kept_of_any_lines.Goals as goal

pub returns-clause-index : goal.returns-clause-index
returns-clause-index c line rows book h = stand-same line rows book h

pub returns-clause-days : goal.returns-clause-days
returns-clause-days c line days book h = days-same line book days h

pub returns-clause-turnover : goal.returns-clause-turnover
returns-clause-turnover c line turnover book h = turnover-same line book turnover h

pub returns-clause-fits : goal.returns-clause-fits
returns-clause-fits c line book h = fits-same line book h
