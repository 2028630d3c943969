use Rattle.std.proofs.Common.{◌≡◌, take}
use Rattle.prices.specs.Chains.{priced_on, declared}
use Rattle.prices.specs.Search.{steps_of}
use Rattle.prices.proofs.steps.declared_steps.Given as goal

abbrev pub invariant-loop-pair : goal.invariant-loop-pair
invariant-loop-pair l = l.steps.items ≡ steps_of (declared (priced_on l.sorted l.day.0)) (take l.pair-index l.pairs)
