use Rattle.std.proofs.Common.{◌≡◌, ◌≤◌, length, drop, true}
use Rattle.book.specs.Standing.{all_greater}
use Rattle.book.proofs.marks.put_mark.Given as goal

-- all from here on have greater numbers
abbrev pub invariant-loop-at : goal.invariant-loop-at
invariant-loop-at l = record {
  within : l.at ≤ length l.marks.items;
  greater : all_greater l.number (drop l.at l.marks.items) ≡ true;
}

abbrev pub decreases-loop-at : goal.decreases-loop-at
decreases-loop-at l = l.at
