use Rattle.std.proofs.Common.{◌≡◌, ◌+◌, ◌*◌, ◌/◌, ◌^◌, ◌≤◌}
use Rattle.live_index.specs.Rows.{sum_before}
use Rattle.live_index.specs.Told.{IsSum}
use Rattle.live_index.proofs.nodes.upto.Given as goal

-- the sum of the days before the last that the digits so far make up
abbrev pub invariant-loop-level : goal.invariant-loop-level
invariant-loop-level g l = record {
  digits : l.level ≤ 22;
  sum : IsSum (g.N.Nodes.told l.nodes) l.symbol (sum_before (g.N.Nodes.told l.nodes) l.account l.symbol l.below (l.end.0 / 2 ^ l.level * 2 ^ l.level)) l.sum;
  few : l.steps.nodes + l.level ≤ l.initial.steps.nodes + 22;
  kept : l.initial.steps.nodes ≤ l.steps.nodes;
  read : l.steps.bytes_read ≡ l.initial.steps.bytes_read;
  checked : l.steps.checked ≡ l.initial.steps.checked;
}

abbrev pub decreases-loop-level : goal.decreases-loop-level
decreases-loop-level g l = l.level
