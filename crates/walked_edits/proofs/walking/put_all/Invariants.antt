use Rattle.walked_edits.proofs.Going.{IsPuttingOn}
use Rattle.walked_edits.proofs.walking.put_all.Given as goal

abbrev pub invariant-loop-next : goal.invariant-loop-next
invariant-loop-next g l = IsPuttingOn l.edit l.taken l.fn.book.items l.book.items l.kept l.next-index l.fn.steps l.steps
