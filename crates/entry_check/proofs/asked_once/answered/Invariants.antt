use Rattle.std.proofs.Common.{◌≡◌, drop}
use Rattle.entry_check.specs.Asked.{answered}
use Rattle.entry_check.proofs.asked_once.answered.Given as goal

abbrev pub invariant-loop-answer : goal.invariant-loop-answer
invariant-loop-answer l = answered l.account l.symbol l.below (drop l.answer-index l.answers) ≡ answered l.account l.symbol l.below l.answers
