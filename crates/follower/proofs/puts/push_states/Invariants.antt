use Rattle.std.proofs.Common.{◌≡◌, ◌++◌, take}
use Rattle.follower.proofs.puts.push_states.Given as goal

abbrev pub invariant-loop-state : goal.invariant-loop-state
invariant-loop-state l = l.made.items ≡ l.fn.made.items ++ take l.state-index l.states
