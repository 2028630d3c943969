use Rattle.std.proofs.Common.{◌≡◌, ◌++◌, length, drop}
use Rattle.text_store.specs.Image.{with_mark}
use Rattle.follower.proofs.puts.states_with.Given as goal

abbrev pub invariant-loop-i : goal.invariant-loop-i
invariant-loop-i l = (l.i-end ≡ length l.states) × (l.made.items ++ with_mark l.state (drop l.i l.states) ≡ with_mark l.state l.states)
