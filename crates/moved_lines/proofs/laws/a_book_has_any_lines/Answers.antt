use Rattle.moved_lines.proofs.Numbering.{moved-is, solves-moved}
use Rattle.moved_lines.proofs.Placing.{before-same, placed-moved}
use Rattle.moved_lines.proofs.Solved.{solves-relined}
use Rattle.moved_lines.proofs.laws.a_book_has_any_lines.Goals as goal

pub returns-clause-solves : goal.returns-clause-solves
returns-clause-solves c line written book = solves-relined line written book

pub returns-clause-moved : goal.returns-clause-moved
returns-clause-moved c n by written book = solves-moved n by written book

pub returns-clause-is : goal.returns-clause-is
returns-clause-is c n by txns = moved-is n by txns

pub returns-clause-placed : goal.returns-clause-placed
returns-clause-placed c line book = placed-moved line 0 book

pub returns-clause-values : goal.returns-clause-values
returns-clause-values c line book account below place = before-same line book account below place
