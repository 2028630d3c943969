use Rattle.std.proofs.Common.{◌∷◌, map, take}
use Rattle.prices.specs.Answers.{answer_by, IsTold}
use Rattle.prices.proofs.table.answers.Given as goal

abbrev pub invariant-loop-step : goal.invariant-loop-step
invariant-loop-step l = IsTold l.answers (l.target ∷ map (λ step. step.from) (take l.step-index l.steps)) (answer_by l.by_declared.entries l.by_either.entries)
