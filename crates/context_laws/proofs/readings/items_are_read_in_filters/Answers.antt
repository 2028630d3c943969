use Rattle.context_laws.proofs.Placing.{are_read, is_unread, read_back, unread_back}
use Rattle.context_laws.proofs.readings.items_are_read_in_filters.Goals as goal

pub returns-clause-read : goal.returns-clause-read
returns-clause-read c year text placed h = are_read year text placed h

pub returns-clause-items : goal.returns-clause-items
returns-clause-items c year text placed h = read_back year text placed h

pub returns-clause-unread : goal.returns-clause-unread
returns-clause-unread c year text fault h = is_unread year text fault h

pub returns-clause-fault : goal.returns-clause-fault
returns-clause-fault c year text fault h = unread_back year text fault h
