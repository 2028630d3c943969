use Rattle.std.proofs.Common.{◌≡◌, ◌++◌, map, take}
use Rattle.turn_client.specs.Entries.{KeepsRest}
use Rattle.turn_client.specs.Sums.{amount_of}
use Rattle.turn_client.proofs.sum.add_all.Given as goal

abbrev pub invariant-loop-amount : goal.invariant-loop-amount
invariant-loop-amount g l = KeepsRest l.initial.pass l.pass × (map amount_of l.pass.mine ≡ map amount_of l.initial.pass.mine ++ take l.amount-index l.amounts)
