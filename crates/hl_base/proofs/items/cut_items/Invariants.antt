use Rattle.std.proofs.Common.{◌≡◌, ◌≤◌, ◌+◌, ◌-◌, ◌++◌, length, drop}
use Rattle.std.specs.List.{AllByRecursion}
use Rattle.hl_base.specs.Lines.{lines_of}
use Rattle.hl_base.specs.Items.{cut_from, items_of}
use Rattle.hl_base.specs.Pieces.{IsWithin, bytes_in}
use Rattle.hl_base.proofs.items.cut_items.Given as goal

-- the pieces so far and those of the rest are those of the text
abbrev pub invariant-loop-at : goal.invariant-loop-at
invariant-loop-at l = record {
  within : l.at ≤ length l.text;
  counted : l.line ≤ l.at + 1;
  cut : l.pieces.items ++ cut_from 0 l.at l.line (lines_of (drop l.at l.text)) ≡ items_of l.text;
  covered : bytes_in l.pieces.items ≡ l.at;
  each : AllByRecursion (IsWithin (length l.text)) l.pieces.items;
}

abbrev pub decreases-loop-at : goal.decreases-loop-at
decreases-loop-at l = length l.text - l.at
