use Rattle.std.proofs.Common.{length, ◌-◌}
use Rattle.walked_texts.proofs.Exchanged.{IsIn}
use Rattle.walked_texts.proofs.putting.swap_in.Given as goal

-- the forms before a place were put in
abbrev pub invariant-loop-at : goal.invariant-loop-at
invariant-loop-at l = IsIn l.at l.fn.book.items l.book.items l.fn.forms.items l.forms.items

abbrev pub decreases-loop-at : goal.decreases-loop-at
decreases-loop-at l = length l.forms.items - l.at
