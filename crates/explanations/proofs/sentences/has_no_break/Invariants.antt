use Rattle.std.proofs.Common.{◌≡◌, length}
use Rattle.explanations.specs.Explained.{has_no_break}
use Rattle.explanations.proofs.sentences.has_no_break.Given as goal

abbrev pub invariant-loop-first : goal.invariant-loop-first
invariant-loop-first l = has_no_break l.text ≡ has_no_break l.rest

abbrev pub decreases-loop-first : goal.decreases-loop-first
decreases-loop-first l = length l.rest
