use Rattle.read_days.proofs.Items.{calendar_in, near_in, postings_near}
use Rattle.read_days.proofs.laws.days_of_a_text.Goals as goal

pub returns-clause-calendar : goal.returns-clause-calendar
returns-clause-calendar c year text items reads = calendar_in year text items reads

pub returns-clause-near : goal.returns-clause-near
returns-clause-near c year text items reads n txn got = near_in year text items reads n txn got

pub returns-clause-postings : goal.returns-clause-postings
returns-clause-postings c year text items reads n txn got = postings_near year text items reads n txn got
