use Rattle.moved_lines.proofs.Settles.{moved-all}
use Rattle.book_laws.proofs.Lined.{numbers-same, postings-same, rows-same}
use Rattle.book_laws.proofs.lines.rows_of_any_lines.Goals as goal

pub returns-clause-postings : goal.returns-clause-postings
returns-clause-postings c line book = postings-same line 0 book

pub returns-clause-rows : goal.returns-clause-rows
returns-clause-rows c line book = rows-same line 0 book

pub returns-clause-days : goal.returns-clause-days
returns-clause-days c line book day = numbers-same line day 0 book

pub returns-clause-moved : goal.returns-clause-moved
returns-clause-moved c line book = moved-all line 0 book
