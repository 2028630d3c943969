use Rattle.std.proofs.Common.{length, ◌-◌, ◌≡◌, ◌≤◌, ◌+◌, ◌++◌, ℕ, Some, take, IfSome}
use Rattle.hl_base.proofs.link.send_all.Given as goal

-- what was sent is the front of the text, and the rest still fits
abbrev pub invariant-loop-at : goal.invariant-loop-at
invariant-loop-at g l =
    let link = g.K.Link in
    record {
      within : l.at ≤ length l.text;
      told : IfSome (link.sent l.fn.link) (λ before. link.sent l.link ≡ Some (before ++ take l.at l.text));
      coming : link.coming l.link ≡ link.coming l.fn.link;
      counted : link.write_faults l.link ≡ link.write_faults l.fn.link;
      read_faults : link.read_faults l.link ≡ link.read_faults l.fn.link;
      sound : (more : ℕ) → link.HasRoom l.fn.link (length l.text + more) → link.HasRoom l.link ((length l.text - l.at) + more);
    }

-- proposed from the loop's first test
abbrev pub decreases-loop-at : goal.decreases-loop-at
decreases-loop-at g l = length l.text - l.at
