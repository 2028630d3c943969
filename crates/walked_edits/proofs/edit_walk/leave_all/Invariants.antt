use Rattle.std.proofs.Common.{take}
use Rattle.walked_edits.proofs.Rooming.{IsLeavingOn}
use Rattle.walked_edits.proofs.edit_walk.leave_all.Given as goal

abbrev pub invariant-loop-spot : goal.invariant-loop-spot
invariant-loop-spot g l = IsLeavingOn l.edit l.fn.book.items l.book.items l.kept l.olds.items (take l.spot-index l.spots)
