use Rattle.book.specs.Postings.{txns_of}
use Rattle.book_laws.proofs.Few.{few_of}
use Rattle.read_days.proofs.Items.{decimals_in}
use Rattle.read_days.proofs.laws.decimals_of_a_text.Goals as goal

pub returns-clause-written : goal.returns-clause-written
returns-clause-written c year text items reads = decimals_in year text items reads

pub returns-clause-book : goal.returns-clause-book
returns-clause-book c year text items book reads solves = few_of (txns_of items) book solves (decimals_in year text items reads)
