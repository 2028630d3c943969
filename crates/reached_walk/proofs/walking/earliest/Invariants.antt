use Rattle.std.proofs.Common.{◌≡◌, take}
use Rattle.reached_walk.specs.Notes.{earliest_of}
use Rattle.reached_walk.proofs.walking.earliest.Given as goal

abbrev pub invariant-loop-change : goal.invariant-loop-change
invariant-loop-change l = l.first ≡ earliest_of l.fn.edited (take l.change-index l.changes)
