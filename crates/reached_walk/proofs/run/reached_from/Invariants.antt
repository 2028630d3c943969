use Rattle.std.proofs.Common.{not, length, filter}
use Rattle.std.specs.List.{range_with_len}
use Rattle.reached_walk.specs.Closed.{edit_of}
use Rattle.reached_walk.specs.Spots.{holds}
use Rattle.reached_walk.specs.Walks.{Walks}
use Rattle.reached_walk.proofs.run.reached_from.Given as goal

abbrev pub invariant-loop-spot : goal.invariant-loop-spot
invariant-loop-spot l = Walks (edit_of l.number l.before l.after) l.spots.items l.spots.items l.walk

-- the transactions that weren't answered
abbrev pub decreases-loop-spot : goal.decreases-loop-spot
decreases-loop-spot l = length (filter (λ n. not (holds l.spots.items n)) (range_with_len 0 (length l.after)))
