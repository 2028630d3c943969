use Rattle.book_laws.proofs.Reached.{closed-bare, closed-lined, plain-lined, size-same}
use Rattle.book_laws.proofs.reach.reach_of_any_lines.Goals as goal

pub returns-clause-closed : goal.returns-clause-closed
returns-clause-closed c line edited before after set h = closed-lined line edited before after set h

pub returns-clause-back : goal.returns-clause-back
returns-clause-back c line edited before after set h = closed-bare line edited before after set h

pub returns-clause-size : goal.returns-clause-size
returns-clause-size c line set txns = size-same line set txns

pub returns-clause-plain : goal.returns-clause-plain
returns-clause-plain c line edited before after set book h = plain-lined line edited before after set book h
