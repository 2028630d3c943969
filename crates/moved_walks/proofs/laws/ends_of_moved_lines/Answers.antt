use Rattle.moved_walks.proofs.Ends.{assigned-same, end-moved, last-same}
use Rattle.moved_walks.proofs.laws.ends_of_moved_lines.Goals as goal

pub returns-clause-last : goal.returns-clause-last
returns-clause-last c line book = last-same line book

pub returns-clause-assigned : goal.returns-clause-assigned
returns-clause-assigned c line book = assigned-same line book

pub returns-clause-end : goal.returns-clause-end
returns-clause-end c n by book end h = end-moved n by book end h
