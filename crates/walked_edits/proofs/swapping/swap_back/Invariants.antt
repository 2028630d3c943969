use Rattle.walked_edits.proofs.Exchanging.{IsBack}
use Rattle.walked_edits.proofs.swapping.swap_back.Given as goal

-- the forms behind a place were taken back
abbrev pub invariant-loop-at : goal.invariant-loop-at
invariant-loop-at l = IsBack l.at l.fn.book.items l.book.items l.fn.forms.items l.forms.items

abbrev pub decreases-loop-at : goal.decreases-loop-at
decreases-loop-at l = l.at
