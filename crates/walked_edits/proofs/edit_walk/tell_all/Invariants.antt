use Rattle.std.proofs.Common.{take}
use Rattle.walked_edits.specs.Walking.{TellsOld}
use Rattle.walked_edits.proofs.edit_walk.tell_all.Given as goal

abbrev pub invariant-loop-spot : goal.invariant-loop-spot
invariant-loop-spot g l = TellsOld l.edit (take l.spot-index l.spots) l.reach
