use Rattle.std.proofs.Common.{◌≡◌, ◌-◌, ◌≤◌, length, drop}
use Rattle.std.specs.List.{list_any}
use Rattle.hl_base.specs.Lines.{lines_of}
use Rattle.hl_base.specs.Items.{closes_block}
use Rattle.text_ends.proofs.kept.has_block_end.Given as goal

abbrev pub invariant-loop-at : goal.invariant-loop-at
invariant-loop-at l = record {
  within : l.at ≤ length l.text;
  left : list_any closes_block (lines_of (drop l.at l.text)) ≡ list_any closes_block (lines_of l.text);
}

abbrev pub decreases-loop-at : goal.decreases-loop-at
decreases-loop-at l = length l.text - l.at
