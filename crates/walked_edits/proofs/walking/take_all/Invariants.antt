use Rattle.std.proofs.Common.{not, length, filter}
use Rattle.std.specs.List.{range_with_len}
use Rattle.reached_walk.specs.Spots.{holds}
use Rattle.walked_edits.specs.Forms.{put_back, spots_of}
use Rattle.walked_edits.proofs.Taking.{IsTakingOn}
use Rattle.walked_edits.proofs.walking.take_all.Given as goal

abbrev pub invariant-loop-spot : goal.invariant-loop-spot
invariant-loop-spot g l = IsTakingOn l.edit (put_back l.fn.book.items l.fn.walking.taken.items) l.book.items l.walking l.reach

-- the transactions that weren't answered
abbrev pub decreases-loop-spot : goal.decreases-loop-spot
decreases-loop-spot g l = length (filter (λ n. not (holds (spots_of l.walking.taken.items) n)) (range_with_len 0 (length l.edit.written)))
