use Rattle.book_laws.proofs.Reached.{closed-moved, closed-unmoved, none-moved, plain-unmoved, size-moved}
use Rattle.book_laws.proofs.reach.reach_of_moved_lines.Goals as goal

pub returns-clause-closed : goal.returns-clause-closed
returns-clause-closed c n by edited before after set h = closed-moved n by edited before after set h

pub returns-clause-unmoved : goal.returns-clause-unmoved
returns-clause-unmoved c n by edited before after set h = closed-unmoved n by edited before after set h

pub returns-clause-size : goal.returns-clause-size
returns-clause-size c n by set txns = size-moved n by set txns

pub returns-clause-plain : goal.returns-clause-plain
returns-clause-plain c n by edited before after set book can h = plain-unmoved n by edited before after can set book h

pub returns-clause-none : goal.returns-clause-none
returns-clause-none c n by edited before after can none = none-moved n by edited before after can none
