use Rattle.std.proofs.Common.{◌≡◌, ◌++◌, length, take, drop}
use Rattle.text_store.specs.Image.{with_mark}
use Rattle.desk.proofs.states.put_state.Given as goal

abbrev pub invariant-loop-i : goal.invariant-loop-i
invariant-loop-i l =
    (l.states.items ≡ l.initial.states.items) × (l.i-end ≡ length l.states.items)
    × (take l.i l.states.items ++ with_mark l.mark (drop l.i l.states.items) ≡ with_mark l.mark l.states.items)
