use Rattle.std.proofs.Common.{◌≡◌, length}
use Rattle.bank_explanations.specs.Parts.{first_bad}
use Rattle.bank_explanations.proofs.parts.first_bad.Given as goal

abbrev pub invariant-loop-first : goal.invariant-loop-first
invariant-loop-first l = first_bad l.context l.fields l.judged ≡ first_bad l.context l.fields l.rest

abbrev pub decreases-loop-first : goal.decreases-loop-first
decreases-loop-first l = length l.rest
