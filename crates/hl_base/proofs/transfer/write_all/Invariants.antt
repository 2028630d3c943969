use Rattle.std.proofs.Common.{length, ◌-◌, ◌≡◌, ◌≤◌, ◌+◌, ◌++◌, ℕ, Some, take, IfSome}
use Rattle.hl_base.proofs.transfer.write_all.Given as goal

-- what was written is the front of the text, and the rest still fits
abbrev pub invariant-loop-at : goal.invariant-loop-at
invariant-loop-at g l =
    let sink = g.O.Sink in
    record {
      within : l.at ≤ length l.text;
      told : IfSome (sink.written l.fn.out) (λ before. sink.written l.out ≡ Some (before ++ take l.at l.text));
      counted : sink.faults l.out ≡ sink.faults l.fn.out;
      sound : (more : ℕ) → sink.HasRoom l.fn.out (length l.text + more) → sink.HasRoom l.out ((length l.text - l.at) + more);
    }

-- proposed from the loop's first test
abbrev pub decreases-loop-at : goal.decreases-loop-at
decreases-loop-at g l = length l.text - l.at
