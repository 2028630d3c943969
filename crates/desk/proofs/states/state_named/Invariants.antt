use Rattle.std.proofs.Common.{◌≡◌, drop}
use Rattle.desk.specs.Imports.{state_named}
use Rattle.desk.proofs.states.state_named.Given as goal

abbrev pub invariant-loop-state : goal.invariant-loop-state
invariant-loop-state l = state_named l.name (drop l.state-index l.states) ≡ state_named l.name l.states
