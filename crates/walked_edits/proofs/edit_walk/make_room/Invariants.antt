use Rattle.std.proofs.Common.{◌-◌, length}
use Rattle.walked_edits.proofs.Begins.{IsMakingRoom}
use Rattle.walked_edits.proofs.edit_walk.make_room.Given as goal

abbrev pub invariant-loop-day : goal.invariant-loop-day
invariant-loop-day g l = IsMakingRoom l.edit.written l.fn.book.items l.book.items

-- what is missing
abbrev pub decreases-loop-day : goal.decreases-loop-day
decreases-loop-day g l = length l.edit.written - length l.book.items
