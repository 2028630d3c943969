use Rattle.std.proofs.Common.{◌≡◌, ◌+◌, ◌-◌, ◌≤◌, length, drop}
use Rattle.hl_base.specs.Lines.{lines_of}
use Rattle.hl_base.proofs.line.count_lines.Given as goal

abbrev pub invariant-loop-at : goal.invariant-loop-at
invariant-loop-at l = record {
  within : l.at ≤ length l.text;
  few : l.lines ≤ l.at;
  left : l.lines + length (lines_of (drop l.at l.text)) ≡ length (lines_of l.text);
}

abbrev pub decreases-loop-at : goal.decreases-loop-at
decreases-loop-at l = length l.text - l.at
