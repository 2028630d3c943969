use Rattle.std.proofs.Common.{◌≡◌, ◌+◌, ◌-◌, ◌≤◌, ◌++◌, pos, length}
use Rattle.live_index.proofs.TogetherLaws.{both_of, left_of}
use Rattle.live_index.proofs.runs.together.Given as goal

-- what is done and what is left make up the whole
abbrev pub invariant-loop-at : goal.invariant-loop-at
invariant-loop-at l = record {
  within : l.at ≤ length l.first;
  inside : l.other ≤ length l.second;
  whole : l.both.items ++ left_of l.first l.at l.second l.other ≡ both_of (pos 0) l.first (pos 0) l.second;
}

abbrev pub decreases-loop-at : goal.decreases-loop-at
decreases-loop-at l = (length l.first - l.at) + (length l.second - l.other)
