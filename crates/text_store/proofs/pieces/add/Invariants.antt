use Rattle.std.proofs.Common.{◌≡◌, ◌++◌, ◌<◌, length}
use Rattle.text_store.specs.Joined.{joined}
use Rattle.text_store.proofs.pieces.add.Given as goal

abbrev pub invariant-loop-rest : goal.invariant-loop-rest
invariant-loop-rest l = (joined l.parts.items ++ l.rest ≡ joined l.initial.parts.items ++ l.text) × (0 < l.size)

abbrev pub decreases-loop-rest : goal.decreases-loop-rest
decreases-loop-rest l = length l.rest
